use Rattle.std.proofs.Common.{◌≡◌, chars, length}
use denote.Text.{Utf8}
use denote.Shadow.{shadow}
use Rattle.ic_laws.specs.Scan.{is_blank, past_run}
use Rattle.ic_refs.proofs.trim.past_blanks.Given as goal

-- after the blanks of the rest stands what stands after those of the text
abbrev pub invariant-loop-c : goal.invariant-loop-c
invariant-loop-c l = shadow (Utf8 l.rest) × (past_run is_blank (chars l.rest) ≡ past_run is_blank (chars l.fn.text))

abbrev pub decreases-loop-c : goal.decreases-loop-c
decreases-loop-c l = length l.rest
