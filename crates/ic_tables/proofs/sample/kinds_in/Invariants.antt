use Rattle.std.proofs.Common.{◌≡◌, ◌++◌, chars, length, map}
use denote.Text.{Utf8}
use denote.Shadow.{shadow}
use Rattle.ic_tables.specs.Sample.{kind_of}
use Rattle.ic_tables.proofs.sample.kinds_in.Given as goal

-- the kinds so far and those of the rest are all kinds
abbrev pub invariant-loop-letter : goal.invariant-loop-letter
invariant-loop-letter l = shadow (Utf8 l.rest) × (l.kinds.items ++ map kind_of (chars l.rest) ≡ map kind_of (chars l.letters))

abbrev pub decreases-loop-letter : goal.decreases-loop-letter
decreases-loop-letter l = length l.rest
