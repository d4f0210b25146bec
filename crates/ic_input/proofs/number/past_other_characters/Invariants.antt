use Rattle.std.proofs.Common.{◌≡◌, chars, length}
use denote.Text.{Utf8}
use denote.Shadow.{shadow}
use Rattle.ic_laws.specs.Scan.{past_run}
use Rattle.ic_input.specs.Number.{stands_before}
use Rattle.ic_input.proofs.number.past_other_characters.Given as goal

-- what is left ends as the whole text does
abbrev pub invariant-loop-c : goal.invariant-loop-c
invariant-loop-c l = shadow (Utf8 l.rest) × (past_run (stands_before l.decimal) (chars l.rest) ≡ past_run (stands_before l.decimal) (chars l.text))

abbrev pub decreases-loop-c : goal.decreases-loop-c
decreases-loop-c l = length l.rest
