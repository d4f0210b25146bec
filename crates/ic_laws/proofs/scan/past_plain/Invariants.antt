use Rattle.std.proofs.Common.{◌≡◌, ◌-◌, chars, drop, length, IsCharBoundary}
use Rattle.ic_laws.specs.Scan.{is_plain, past_run}
use Rattle.ic_laws.proofs.scan.past_plain.Given as goal

-- what is left begins with a character, and ends as the whole text does
abbrev pub invariant-loop-at : goal.invariant-loop-at
invariant-loop-at l = IsCharBoundary l.text l.at × (past_run is_plain (chars (drop l.at l.text)) ≡ past_run is_plain (chars l.text))

abbrev pub decreases-loop-at : goal.decreases-loop-at
decreases-loop-at l = length l.text - l.at
