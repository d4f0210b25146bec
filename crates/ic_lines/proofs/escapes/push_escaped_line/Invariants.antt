use Rattle.std.proofs.Common.{◌≡◌, ◌++◌, chars, length, string_bytes}
use denote.Text.{Utf8}
use denote.Shadow.{shadow}
use Rattle.ic_laws.specs.Lines.{escaped}
use Rattle.ic_lines.proofs.escapes.push_escaped_line.Given as goal

-- what is written so far, and the rest as it is to be written, are all that is to stand there
abbrev pub invariant-loop-c : goal.invariant-loop-c
invariant-loop-c l = shadow (Utf8 l.rest) × (chars (string_bytes l.word) ++ escaped (chars l.rest) ≡ chars (string_bytes l.fn.word) ++ escaped (chars l.fn.line))

abbrev pub decreases-loop-c : goal.decreases-loop-c
decreases-loop-c l = length l.rest
