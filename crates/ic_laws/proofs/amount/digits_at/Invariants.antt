use Rattle.std.proofs.Common.{◌≡◌, ◌+◌, ◌≤◌, chars, length}
use denote.Text.{Utf8}
use denote.Shadow.{shadow}
use Rattle.std.specs.Str.Parse.{digits_value, digits_value_after}
use Rattle.ic_laws.specs.Scan.{is_digit, run_of, past_run}
use Rattle.ic_laws.proofs.amount.digits_at.Given as goal

-- what was passed and the digits of what is left are those of the text
abbrev pub invariant-loop-c : goal.invariant-loop-c
invariant-loop-c l = record {
  text : shadow (Utf8 l.rest);
  number : digits_value_after 10 l.value (run_of is_digit (chars l.rest)) ≡ digits_value 10 (run_of is_digit (chars l.text));
  counted : l.count + length (run_of is_digit (chars l.rest)) ≡ length (run_of is_digit (chars l.text));
  after : past_run is_digit (chars l.rest) ≡ past_run is_digit (chars l.text);
  small : l.value ≤ l.most;
  short : l.count + length l.rest ≤ length l.text;
}

abbrev pub decreases-loop-c : goal.decreases-loop-c
decreases-loop-c l = length l.rest
