use Rattle.std.proofs.Common.{◌≡◌, ◌+◌, ◌-◌, ◌<◌, ◌≤◌, ◌^◌, chars, length}
use denote.Text.{Utf8}
use denote.Shadow.{shadow}
use Rattle.std.specs.Str.Parse.{digits_value, digits_value_after}
use Rattle.ic_laws.specs.AmountFront.{past_some, some_digits}
use Rattle.ic_input.proofs.date.field_at.Given as goal

-- what was passed and the digits of what is left are those of the text
abbrev pub invariant-loop-digit : goal.invariant-loop-digit
invariant-loop-digit l = record {
  text : shadow (Utf8 l.rest);
  few : l.left ≤ l.most;
  value : digits_value_after 10 l.value (some_digits l.left (chars l.rest)) ≡ digits_value 10 (some_digits l.most (chars l.text));
  counted : l.most - l.left + length (some_digits l.left (chars l.rest)) ≡ length (some_digits l.most (chars l.text));
  after : past_some l.left (chars l.rest) ≡ past_some l.most (chars l.text);
  small : l.value < 10 ^ (l.most - l.left);
}

abbrev pub decreases-loop-digit : goal.decreases-loop-digit
decreases-loop-digit l = l.left
