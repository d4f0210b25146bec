use Rattle.std.proofs.Common.{◌≡◌, ◌<◌, ◌^◌, ap, subst, ◌∙◌, pos, Ok, Err, IfOk, Result, true, arith}
use Rattle.std.proofs.lemmas.Bool.Decides.{nat_tests}
use Rattle.ic_laws.specs.Amount.{is_amount, amount_text, unsigned_amount}
use Rattle.ic_laws.proofs.AmountTexts.{unsigned_amount-text}
use Rattle.ic_laws.proofs.amount.amount_spelling.Goals as goal

weaker : {T E : Type 0} {P Q : T → Type 0} (r : Result T E) → ((t : T) → P t → Q t) → IfOk r P → IfOk r Q
weaker (Ok t) f h = f t h
weaker (Err e) f h = tt

pub returns-clause-read_back : goal.returns-clause-read_back
returns-clause-read_back c n e apart =
    let is : is_amount (pos n) ≡ true = subst (λ z. is_amount z ≡ true) e c.spelled.ensures.within in
    let small : n < 10 ^ 27 = grind (arith, nat_tests) in
    weaker c.spelled.result
    (λ s h. ap (unsigned_amount c.args.decimal) (h ∙ ap (amount_text c.args.decimal) e) ∙ unsigned_amount-text c.args.decimal n small apart) c.spelled.ensures.text
