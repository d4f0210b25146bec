use Rattle.std.proofs.Common.{◌≡◌, ◌+◌, ◌≤◌, chars, length}
use denote.Text.{Utf8}
use denote.Shadow.{shadow}
use Rattle.std.specs.Str.Parse.{digits_value, digits_value_after}
use Rattle.ic_laws.specs.AmountFront.{digits_to, last_whole, past_to}
use Rattle.ic_tree.proofs.lexer.numbers.whole_part.Given as goal

-- what was passed and the digits of what is left are those of the text
abbrev pub invariant-loop-c : goal.invariant-loop-c
invariant-loop-c l = record {
  text : shadow (Utf8 l.rest);
  number : digits_value_after 10 l.value (digits_to last_whole l.value (chars l.rest)) ≡ digits_value 10 (digits_to last_whole 0 (chars l.text));
  counted : l.count + length (digits_to last_whole l.value (chars l.rest)) ≡ length (digits_to last_whole 0 (chars l.text));
  after : past_to last_whole l.value (chars l.rest) ≡ past_to last_whole 0 (chars l.text);
  small : l.value ≤ last_whole;
  short : l.count + length l.rest ≤ length l.text;
}

abbrev pub decreases-loop-c : goal.decreases-loop-c
decreases-loop-c l = length l.rest
