use Rattle.std.proofs.Common.{◌≡◌, ◌++◌, chars, length, string_bytes}
use Rattle.std.specs.Prelude.{flat_map}
use denote.Text.{Utf8}
use denote.Shadow.{shadow}
use Rattle.ic_machine.specs.subjects.Notation.{as_code}
use Rattle.ic_parts.proofs.settings.push_code.Given as goal

-- what is written so far, and the rest of the format as a code, are the whole format as one
abbrev pub invariant-loop-c : goal.invariant-loop-c
invariant-loop-c l =
    shadow (Utf8 l.rest) × (chars (string_bytes l.code) ++ flat_map (as_code (chars l.fn.symbol)) (chars l.rest) ≡ chars (string_bytes l.fn.code) ++ flat_map (as_code (chars l.fn.symbol)) (chars l.fn.format))

abbrev pub decreases-loop-c : goal.decreases-loop-c
decreases-loop-c l = length l.rest
