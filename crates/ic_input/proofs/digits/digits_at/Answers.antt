use Rattle.std.proofs.Common.{◌≡◌, ◌∙◌, ◌^◌, true, chars, rules, ap, arith, min}
use Rattle.std.specs.Str.Parse.{digits_value_after}
use Rattle.ic_laws.specs.Scan.{is_digit, run_of}
use Rattle.ic_input.proofs.DigitLemmas.{digit_more}
use Rattle.ic_input.proofs.digits.digits_at.Goals as goal

pub loop-c-preserved : goal.loop-c-preserved
loop-c-preserved c =
    let digit : is_digit c.in-Some.c ≡ true = search rules in
    let more = digit_more c.loop-c.value c.in-Some.c (10 ^ 20) (chars c.loop-c.rest.now) (chars c.in-Some.after.now) c.in-Some.ensures.parts digit in
    record {
      text = search rules;
      value = ap (λ n. min (digits_value_after 10 n (run_of is_digit (chars c.in-Some.after.now))) (10 ^ 20)) c.min-value.ensures ∙ more ∙ c.loop-c.invariant.value;
      within = omega (arith, c.min-value.ensures);
      counted = search rules;
      after = search rules;
      short = omega (arith, c.in-Some.ensures.shorter);
    }
