use Rattle.std.proofs.Common.{◌≡◌, ◌+◌, ◌-◌, ◌^◌, ◌<◌, ◌≤◌, chars, length}
use denote.Text.{Utf8}
use denote.Shadow.{shadow}
use Rattle.std.specs.Str.Parse.{digits_value, digits_value_after}
use Rattle.ic_laws.specs.AmountFront.{past_some, some_digits}
use Rattle.ic_tree.proofs.lexer.numbers.nine_digits.Given as goal

-- what was passed and the digits of what is left are those of the text
abbrev pub invariant-loop-c : goal.invariant-loop-c
invariant-loop-c l = record {
  text : shadow (Utf8 l.rest);
  number : digits_value_after 10 l.value (some_digits (9 - l.count) (chars l.rest)) ≡ digits_value 10 (some_digits 9 (chars l.text));
  counted : l.count + length (some_digits (9 - l.count) (chars l.rest)) ≡ length (some_digits 9 (chars l.text));
  after : past_some (9 - l.count) (chars l.rest) ≡ past_some 9 (chars l.text);
  few : l.count ≤ 9;
  small : l.value < 10 ^ l.count;
}

abbrev pub decreases-loop-c : goal.decreases-loop-c
decreases-loop-c l = length l.rest
