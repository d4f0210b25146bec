use Rattle.std.proofs.Common.{chars, length}
use denote.Text.{Utf8}
use denote.Shadow.{shadow}
use Rattle.ic_refs.specs.Trim.{EndsSoFar}
use Rattle.ic_refs.proofs.trim.after_last.Given as goal

-- after the last character that is no blank stand blanks and the rest
abbrev pub invariant-loop-c : goal.invariant-loop-c
invariant-loop-c l = shadow (Utf8 l.rest) × shadow (Utf8 l.end) × EndsSoFar (chars l.fn.text) (chars l.end) (chars l.rest)

abbrev pub decreases-loop-c : goal.decreases-loop-c
decreases-loop-c l = length l.rest
