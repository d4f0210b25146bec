use Rattle.std.proofs.Common.{◌≡◌, ◌∙◌, ◌-◌, ◌<◌, suc, chars, rules, arith}
use Rattle.std.proofs.Math.Nat.{pow-suc}
use Rattle.ic_input.proofs.DateSteps.{one_digit}
use Rattle.ic_input.proofs.date.field_at.Goals as goal

pub loop-digit-preserved : goal.loop-digit-preserved
loop-digit-preserved c =
    let d = one_digit c.loop-digit.left c.loop-digit.value c.in-Some.digit (chars c.loop-digit.rest.now) (chars c.in-Some.after.now) c.in-Some.ensures.digit in
    let left : 0 < c.loop-digit.left = c.in-Some.ensures.digit.0 in
    let below : c.in-Some.digit < 10 = c.in-Some.ensures.digit.1 in
    let more : c.args.most - (c.loop-digit.left - 1) ≡ suc (c.args.most - c.loop-digit.left) = omega arith in
    record {
      text = search rules;
      few = omega arith;
      value = d.number ∙ c.loop-digit.invariant.value;
      counted = omega (arith, d.count, more, c.loop-digit.invariant.counted);
      after = d.after ∙ c.loop-digit.invariant.after;
      small = rw (more, pow-suc 10 (c.args.most - c.loop-digit.left)) (omega (arith, c.loop-digit.invariant.small));
    }
