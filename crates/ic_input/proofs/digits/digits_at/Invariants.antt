use Rattle.std.proofs.Common.{◌≡◌, ◌+◌, ◌≤◌, ◌^◌, min, chars, length}
use denote.Text.{Utf8}
use denote.Shadow.{shadow}
use Rattle.std.specs.Str.Parse.{digits_value, digits_value_after}
use Rattle.ic_laws.specs.Scan.{is_digit, run_of, past_run}
use Rattle.ic_input.proofs.digits.digits_at.Given as goal

-- what was passed and the digits of what is left are those of the text
abbrev pub invariant-loop-c : goal.invariant-loop-c
invariant-loop-c l = record {
  text : shadow (Utf8 l.rest);
  value : min (digits_value_after 10 l.value (run_of is_digit (chars l.rest))) (10 ^ 20) ≡ min (digits_value 10 (run_of is_digit (chars l.text))) (10 ^ 20);
  within : l.value ≤ 10 ^ 20;
  counted : l.count + length (run_of is_digit (chars l.rest)) ≡ length (run_of is_digit (chars l.text));
  after : past_run is_digit (chars l.rest) ≡ past_run is_digit (chars l.text);
  short : l.count + length l.rest ≤ length l.text;
}

abbrev pub decreases-loop-c : goal.decreases-loop-c
decreases-loop-c l = length l.rest
