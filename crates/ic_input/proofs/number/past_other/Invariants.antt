use Rattle.std.proofs.Common.{◌≡◌, ◌-◌, chars, drop, length, IsCharBoundary}
use Rattle.ic_laws.specs.Scan.{past_run}
use Rattle.ic_input.specs.Number.{stands_before}
use Rattle.ic_input.proofs.number.past_other.Given as goal

-- what is left begins with a character, and ends as the whole text does
abbrev pub invariant-loop-at : goal.invariant-loop-at
invariant-loop-at l = IsCharBoundary l.text l.at × (past_run (stands_before l.decimal) (chars (drop l.at l.text)) ≡ past_run (stands_before l.decimal) (chars l.text))

abbrev pub decreases-loop-at : goal.decreases-loop-at
decreases-loop-at l = length l.text - l.at
