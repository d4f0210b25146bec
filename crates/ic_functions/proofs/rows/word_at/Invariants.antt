use Rattle.std.proofs.Common.{◌≡◌, ◌-◌, chars}
use denote.Text.{Utf8}
use denote.Shadow.{shadow}
use Rattle.ic_functions.specs.Rows.{word_at}
use Rattle.ic_functions.proofs.rows.word_at.Given as goal

-- the word stands nearer by each one that was passed
abbrev pub invariant-loop : goal.invariant-loop
invariant-loop l = shadow (Utf8 l.rest) × (word_at (l.place - l.counter) (chars l.rest) ≡ word_at l.place (chars l.row))
