use Rattle.std.proofs.Common.{◌≡◌, ◌++◌, chars, length, string_bytes, option_map}
use denote.Text.{Utf8}
use denote.Shadow.{shadow}
use Rattle.ic_laws.specs.Lines.{unescaped}
use Rattle.ic_lines.proofs.escapes.spelled_text.Given as goal

-- the text so far, and what the rest spells, are what the whole word spells
abbrev pub invariant-loop-c : goal.invariant-loop-c
invariant-loop-c l = shadow (Utf8 l.rest) × (option_map (λ t. chars (string_bytes l.text) ++ t) (unescaped (chars l.rest)) ≡ unescaped (chars l.fn.word))

abbrev pub decreases-loop-c : goal.decreases-loop-c
decreases-loop-c l = length l.rest
