use Rattle.std.proofs.Common.{◌∙◌, ◌^◌, ◌+◌, ◌*◌, chars, rules, ap, sym, rules, arith, min}
use Rattle.std.specs.Str.Parse.{digits_value_after}
use Rattle.ic_input.specs.Convention.{is_nothing}
use Rattle.ic_input.specs.Group.{threes}
use Rattle.ic_input.proofs.DigitLemmas.{capped, group_missing, group_taken, or-false, or-true, within-is}
use Rattle.ic_input.proofs.digits.groups_at.Goals as goal

pub loop-three-preserved : goal.loop-three-preserved
loop-three-preserved c =
    let t = group_taken c.args.separator c.in-Some.three (chars c.loop-three.rest.now) (chars c.in-Some.after.now) (sym c.in-Some.ensures.value) in
    let ts = threes c.args.separator (chars c.in-Some.after.now) in
    let v = c.loop-three.value * 1000 + c.in-Some.three in
    let read = c.min-value.ensures ∙ ap (λ n. min (c.loop-three.value * 1000 + n) (10 ^ 20)) c.from.ensures in
    record {
      text = search rules;
      value = ap (λ n. min (digits_value_after 10 n ts) (10 ^ 20)) read ∙ capped v (10 ^ 20) ts ∙ sym (ap (λ n. min n (10 ^ 20)) (t.value c.loop-three.value)) ∙ c.loop-three.invariant.value;
      within = omega (arith, c.min-value.ensures);
      some = or-true c.loop-three.are_some _ _ t.some c.loop-three.invariant.some;
      after = sym t.after ∙ c.loop-three.invariant.after;
    }

pub returns-clause-value : goal.returns-clause-value
returns-clause-value c =
    let none = group_missing c.args.separator (chars c.loop-three.rest.now) (sym c.in_default.ensures.value) in
    let same = ap (λ ts. min (digits_value_after 10 c.loop-three.value ts) (10 ^ 20)) none.0 in
    within-is c.loop-three.value (10 ^ 20) c.loop-three.invariant.within ∙ sym same ∙ c.loop-three.invariant.value

pub returns-clause-are_some : goal.returns-clause-are_some
returns-clause-are_some c =
    let none = group_missing c.args.separator (chars c.loop-three.rest.now) (sym c.in_default.ensures.value) in
    or-false c.loop-three.are_some _ _ (ap is_nothing none.0) c.loop-three.invariant.some

pub returns-clause-rest : goal.returns-clause-rest
returns-clause-rest c =
    let none = group_missing c.args.separator (chars c.loop-three.rest.now) (sym c.in_default.ensures.value) in
    sym none.1 ∙ c.loop-three.invariant.after
