use Rattle.std.proofs.Common.{◌≡◌, ◌++◌, chars, take}
use denote.Shadow.{shadow}
use denote.Text.{Utf8}
use Rattle.ic_tables.proofs.compare.past_chars.Given as goal

-- the text begins with the characters so far
abbrev pub invariant-loop-c : goal.invariant-loop-c
invariant-loop-c l = shadow (Utf8 l.rest) × (chars l.text ≡ take l.c-index l.front ++ chars l.rest)
