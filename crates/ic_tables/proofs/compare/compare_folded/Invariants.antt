use Rattle.std.proofs.Common.{◌≡◌, ◌-◌, chars, drop, length, IsCharBoundary}
use Rattle.std.specs.Cmp.Lexicographic.{slice_cmp}
use Rattle.std.specs.Ordering.{nat_cmp}
use Rattle.ic_laws.specs.Name.{fold}
use Rattle.ic_tables.proofs.compare.compare_folded.Given as goal

-- both are cut before a character, and what is left of both decides
abbrev pub invariant-loop-at : goal.invariant-loop-at
invariant-loop-at l =
    IsCharBoundary l.text l.at × IsCharBoundary l.folded l.at
    × (slice_cmp nat_cmp (fold (chars (drop l.at l.text))) (chars (drop l.at l.folded)) ≡ slice_cmp nat_cmp (fold (chars l.text)) (chars l.folded))

abbrev pub decreases-loop-at : goal.decreases-loop-at
decreases-loop-at l = length l.text - l.at
