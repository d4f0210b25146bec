use Rattle.std.proofs.Common.{◌≡◌, ◌≤◌, chars, length}
use denote.Text.{Utf8}
use denote.Shadow.{shadow}
use Rattle.ic_refs.specs.Digits.{letters_from}
use Rattle.ic_refs.proofs.column.read_letters.Given as goal

-- after the number so far, the rest is read as the whole is
abbrev pub invariant-loop-c : goal.invariant-loop-c
invariant-loop-c l = shadow (Utf8 l.rest) × (letters_from l.number (chars l.rest) ≡ letters_from 0 (chars l.fn.text)) × (l.number ≤ 16384)

abbrev pub decreases-loop-c : goal.decreases-loop-c
decreases-loop-c l = length l.rest
