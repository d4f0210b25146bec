use Rattle.std.proofs.Common.{◌≡◌, ◌++◌, chars, length, string_bytes}
use denote.Text.{Utf8}
use denote.Shadow.{shadow}
use Rattle.ic_laws.specs.Lines.{escaped}
use Rattle.ic_lines.proofs.escapes.push_escaped.Given as goal

-- what is written so far, and the rest as it is to be written, are all that is to stand there
abbrev pub invariant-loop-line : goal.invariant-loop-line
invariant-loop-line l = shadow (Utf8 l.rest) × (chars (string_bytes l.word) ++ escaped (chars l.rest) ≡ chars (string_bytes l.fn.word) ++ escaped (chars l.fn.text))

abbrev pub decreases-loop-line : goal.decreases-loop-line
decreases-loop-line l = length l.rest
