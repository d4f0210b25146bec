use Rattle.std.proofs.Common.{◌≡◌, ◌≤◌, ◌^◌, ◌||◌, not, min, chars, length}
use denote.Text.{Utf8}
use denote.Shadow.{shadow}
use Rattle.std.specs.Str.Parse.{digits_value_after}
use Rattle.ic_input.specs.Convention.{is_nothing}
use Rattle.ic_input.specs.Group.{past_threes, threes}
use Rattle.ic_input.proofs.digits.groups_at.Given as goal

-- what was passed and the groups of what is left are those of the text
abbrev pub invariant-loop-three : goal.invariant-loop-three
invariant-loop-three l = record {
  text : shadow (Utf8 l.rest);
  value : min (digits_value_after 10 l.value (threes l.separator (chars l.rest))) (10 ^ 20) ≡ min (digits_value_after 10 l.earlier (threes l.separator (chars l.text))) (10 ^ 20);
  within : l.value ≤ 10 ^ 20;
  some : (l.are_some || not (is_nothing (threes l.separator (chars l.rest)))) ≡ not (is_nothing (threes l.separator (chars l.text)));
  after : past_threes l.separator (chars l.rest) ≡ past_threes l.separator (chars l.text);
}

abbrev pub decreases-loop-three : goal.decreases-loop-three
decreases-loop-three l = length l.rest
