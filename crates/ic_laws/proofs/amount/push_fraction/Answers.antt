use Rattle.std.proofs.Common.{◌<◌, ◌/◌, ◌++◌, ◌∙◌, ap, sym, subst, chars, string_bytes, ◌%◌, arith}
use Rattle.std.proofs.lemmas.List.{append-nil}
use Rattle.std.proofs.Math.Nat.{mod-lt}
use Rattle.ic_laws.specs.Amount.{fraction_digits}
use Rattle.ic_laws.proofs.AmountLemmas.{first_digit, fraction_digits-zero, one_digit_more}
use Rattle.ic_laws.proofs.amount.push_fraction.Goals as goal

pub push_digit-requires : goal.push_digit-requires
push_digit-requires c =
    let digit = first_digit c.loop-rest.places c.loop-rest.rest c.loop-rest-test.true c.loop-rest.invariant.small in
    subst (λ s. c.loop-rest.rest / s < 10) (sym c.scale-scale.ensures.value) digit.1

pub loop-rest-preserved : goal.loop-rest-preserved
loop-rest-preserved c =
    let digit = first_digit c.loop-rest.places c.loop-rest.rest c.loop-rest-test.true c.loop-rest.invariant.small in
    let small : c.loop-rest.rest % c.scale-scale.result < c.scale-scale.result = mod-lt c.loop-rest.rest c.scale-scale.ensures.bounds.0 in
    record {
      written = one_digit_more _ _ _ c.loop-rest.places c.loop-rest.rest c.scale-scale.result c.scale-scale.ensures.value c.loop-rest-test.true digit.0 c.loop-rest.invariant.written c.in_ok-push_digit.ensures;
      few = omega arith;
      small = subst (λ s. c.loop-rest.rest % c.scale-scale.result < s) c.scale-scale.ensures.value small;
    }

pub returns : goal.returns
returns c =
    sym (append-nil _) ∙ ap (λ ds. chars (string_bytes c.loop-rest.text) ++ ds) (sym (fraction_digits-zero c.loop-rest.places))
    ∙ ap (λ n. chars (string_bytes c.loop-rest.text) ++ fraction_digits c.loop-rest.places n) (sym c.loop-rest-test.false) ∙ c.loop-rest.invariant.written
