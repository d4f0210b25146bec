use Rattle.std.proofs.Common.{◌≡◌, chars, length}
use denote.Shadow.{shadow}
use denote.Text.{Utf8}
use Rattle.ic_tables.specs.Words.{is_proper_prefix}
use Rattle.ic_tables.proofs.fold.is_proper_prefix.Given as goal

-- what is left of both decides
abbrev pub invariant-loop-c : goal.invariant-loop-c
invariant-loop-c l =
    shadow (Utf8 l.front) × shadow (Utf8 l.whole) × (is_proper_prefix (chars l.front) (chars l.whole) ≡ is_proper_prefix (chars l.text) (chars l.other))

abbrev pub decreases-loop-c : goal.decreases-loop-c
decreases-loop-c l = length l.front
