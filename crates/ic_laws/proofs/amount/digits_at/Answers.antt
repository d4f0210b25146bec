use Rattle.std.proofs.Common.{chars, rules, subst, ◌<◌, ◌≡◌, true, arith}
use Rattle.ic_laws.specs.Scan.{is_digit}
use Rattle.ic_laws.proofs.AmountLemmas.{past_limit}
use Rattle.ic_laws.proofs.amount.digits_at.Goals as goal

pub returns-then-value-most : goal.returns-then-value-most
returns-then-value-most c =
    let digit : is_digit c.in-Some.c ≡ true = search rules in
    subst (λ n. c.args.most < n) c.loop-c.invariant.number
    (past_limit c.args.most c.loop-c.value c.in-Some.c (chars c.loop-c.rest.now) (chars c.in-Some.after.now) c.in-Some.ensures.parts digit (omega arith))
