use Rattle.std.proofs.Common.{◌≡◌, chars, length}
use denote.Text.{Utf8}
use denote.Shadow.{shadow}
use Rattle.ic_laws.specs.Scan.{past_run}
use Rattle.ic_machine.specs.Parsed.{is_no_bang}
use Rattle.ic_parts.proofs.references.past_name.Given as goal

-- what is left ends as the whole text does
abbrev pub invariant-loop-c : goal.invariant-loop-c
invariant-loop-c l = shadow (Utf8 l.rest) × (past_run is_no_bang (chars l.rest) ≡ past_run is_no_bang (chars l.text))

abbrev pub decreases-loop-c : goal.decreases-loop-c
decreases-loop-c l = length l.rest
