use Rattle.std.proofs.Common.{◌≡◌, ◌++◌, chars, length}
use denote.Text.{Utf8}
use denote.Shadow.{shadow}
use Rattle.ic_cells.specs.Key.{text_code}
use Rattle.ic_cells.proofs.key.push_text.Given as goal

-- what is written and what is left to write
abbrev pub invariant-loop-c : goal.invariant-loop-c
invariant-loop-c l = shadow (Utf8 l.rest) × (l.key.items ++ text_code (chars l.rest) ≡ l.fn.key.items ++ text_code (chars l.text))

abbrev pub decreases-loop-c : goal.decreases-loop-c
decreases-loop-c l = length l.rest
