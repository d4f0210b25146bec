use Rattle.std.proofs.Common.{◌≡◌, ◌++◌, chars, length}
use Rattle.ic_pool.specs.Bytes.{joined, number_bytes}
use denote.Text.{Utf8}
use denote.Shadow.{shadow}
use Rattle.ic_pool.proofs.code.texts.write_characters.Given as goal

abbrev pub invariant-loop-c : goal.invariant-loop-c
invariant-loop-c l = shadow (Utf8 l.rest) × (l.key ++ joined number_bytes (chars l.rest) ≡ l.fn.key ++ joined number_bytes (chars l.text))

abbrev pub decreases-loop-c : goal.decreases-loop-c
decreases-loop-c l = length l.rest
