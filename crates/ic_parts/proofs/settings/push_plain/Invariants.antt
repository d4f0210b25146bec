use Rattle.std.proofs.Common.{◌≡◌, ◌++◌, chars, length, string_bytes}
use Rattle.std.specs.Prelude.{map}
use denote.Text.{Utf8}
use denote.Shadow.{shadow}
use Rattle.ic_machine.specs.subjects.Notation.{plain_blank}
use Rattle.ic_parts.proofs.settings.push_plain.Given as goal

-- what is written so far, and the rest with plain blanks, are the whole text with plain blanks
abbrev pub invariant-loop-c : goal.invariant-loop-c
invariant-loop-c l =
    shadow (Utf8 l.rest) × (chars (string_bytes l.plain) ++ map plain_blank (chars l.rest) ≡ chars (string_bytes l.fn.plain) ++ map plain_blank (chars l.fn.text))

abbrev pub decreases-loop-c : goal.decreases-loop-c
decreases-loop-c l = length l.rest
