use Rattle.std.proofs.Common.{◌≡◌, chars, length}
use denote.Shadow.{shadow}
use denote.Text.{Utf8}
use Rattle.ic_laws.specs.Scene.{past_front}
use Rattle.ic_input.proofs.code.past_front.Given as goal

-- what is left of both decides
abbrev pub invariant-loop-c : goal.invariant-loop-c
invariant-loop-c l = record {
  front : shadow (Utf8 l.front);
  rest : shadow (Utf8 l.rest);
  same : past_front (chars l.front) (chars l.rest) ≡ past_front (chars l.initial.front) (chars l.text);
}

abbrev pub decreases-loop-c : goal.decreases-loop-c
decreases-loop-c l = length l.front
