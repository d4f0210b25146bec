use Rattle.std.proofs.Common.{◌≡◌, ◌≤◌, chars, length}
use denote.Text.{Utf8}
use denote.Shadow.{shadow}
use Rattle.ic_laws.specs.Scan.{past_run}
use Rattle.ic_functions.specs.Rows.{is_in_row}
use Rattle.ic_functions.proofs.rows.past_row.Given as goal

-- what is left ends as the whole text does
abbrev pub invariant-loop-c : goal.invariant-loop-c
invariant-loop-c l = shadow (Utf8 l.rest) × (length l.rest ≤ length l.text) × (past_run is_in_row (chars l.rest) ≡ past_run is_in_row (chars l.text))

abbrev pub decreases-loop-c : goal.decreases-loop-c
decreases-loop-c l = length l.rest
