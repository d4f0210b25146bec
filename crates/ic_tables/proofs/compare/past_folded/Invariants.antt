use Rattle.std.proofs.Common.{List, ℕ, chars, length}
use denote.Shadow.{shadow}
use denote.Text.{Utf8}
use Rattle.ic_tables.specs.Order.{FoldsFront, FoldsNoFront}
use Rattle.ic_tables.proofs.compare.past_folded.Given as goal

-- what is left of both decides
abbrev pub invariant-folding : goal.invariant-folding
invariant-folding l =
    shadow (Utf8 l.rest) × shadow (Utf8 l.whole)
    × ((after : List ℕ) → FoldsFront (chars l.whole) (chars l.rest) after → FoldsFront (chars l.folded) (chars l.text) after)
    × (FoldsNoFront (chars l.whole) (chars l.rest) → FoldsNoFront (chars l.folded) (chars l.text))

abbrev pub decreases-folding : goal.decreases-folding
decreases-folding l = length l.rest
