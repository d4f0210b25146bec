use Rattle.std.proofs.Common.{◌≡◌, ◌≤◌, chars, length}
use denote.Text.{Utf8}
use denote.Shadow.{shadow}
use Rattle.ic_refs.specs.Digits.{decimal_from}
use Rattle.ic_refs.proofs.number.read_number.Given as goal

-- going on from the number so far over the rest is reading the whole text
abbrev pub invariant-loop-c : goal.invariant-loop-c
invariant-loop-c l = shadow (Utf8 l.rest) × (decimal_from l.limit l.number (chars l.rest) ≡ decimal_from l.limit 0 (chars l.fn.text)) × (l.number ≤ l.limit)

abbrev pub decreases-loop-c : goal.decreases-loop-c
decreases-loop-c l = length l.rest
