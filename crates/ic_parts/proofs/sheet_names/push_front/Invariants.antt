use Rattle.std.proofs.Common.{◌≡◌, ◌++◌, chars, length, string_bytes, take}
use denote.Shadow.{shadow}
use denote.Text.{Utf8}
use Rattle.ic_parts.proofs.sheet_names.push_front.Given as goal

-- what is written so far, and what is left of the front, are all that is to stand there
abbrev pub invariant-loop-c : goal.invariant-loop-c
invariant-loop-c l =
    shadow (Utf8 l.rest)
    × (chars (string_bytes l.text) ++ take l.left (chars l.rest) ≡ chars (string_bytes l.fn.text) ++ take l.fn.count (chars l.fn.source))

abbrev pub decreases-loop-c : goal.decreases-loop-c
decreases-loop-c l = length l.rest
