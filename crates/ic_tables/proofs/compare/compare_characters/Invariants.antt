use Rattle.std.proofs.Common.{◌≡◌, chars, length}
use Rattle.std.specs.Cmp.Lexicographic.{slice_cmp}
use Rattle.std.specs.Ordering.{nat_cmp}
use denote.Shadow.{shadow}
use denote.Text.{Utf8}
use Rattle.ic_laws.specs.Name.{fold}
use Rattle.ic_tables.proofs.compare.compare_characters.Given as goal

-- what is left of both decides
abbrev pub invariant-loop-c : goal.invariant-loop-c
invariant-loop-c l =
    shadow (Utf8 l.front) × shadow (Utf8 l.whole)
    × (slice_cmp nat_cmp (fold (chars l.front)) (chars l.whole) ≡ slice_cmp nat_cmp (fold (chars l.text)) (chars l.folded))

abbrev pub decreases-loop-c : goal.decreases-loop-c
decreases-loop-c l = length l.front
