use Rattle.std.proofs.Common.{◌≡◌, ◌<◌, ◌==◌, ◌∙◌, arith, chars, false, sym}
use Rattle.ic_laws.specs.Scan.{first_is}
use Rattle.ic_tree.proofs.NumberFirst.{whole_number_is}
use Rattle.ic_tree.proofs.lexer.numbers.whole_number.Goals as goal
use Rattle.ic_tree.proofs.lexer.numbers.whole_number.Goals.{then-whole-gt1, else-whole-gt1}

pub returns-in-Some : goal.returns-in-Some
returns-in-Some g c =
    let whole = c.whole_part-whole in
    let lead : 1 < whole.result.count → first_is (λ c. c == 48) (chars c.args.text.now) ≡ false = λ more.
    elim c.if-whole-gt1.branch [
      | then-whole-gt1 w ↦ sym w.begins_with.ensures ∙ sym w.value-is ∙ c.if-begins_with.false
      | else-whole-gt1 w ↦ absurd (omega (arith, more, w.if-whole-gt1.false))
    ] in
    whole_number_is (g.D.Dialect.meaning c.args.d.now) (g.met.D.Dialect.laws c.args.d.now) c.decimal.result (chars c.args.text.now) (chars whole.result.rest.now) whole.result.value whole.result.count c.in-Some.amount
    c.decimal.ensures whole.ensures.value whole.ensures.count whole.ensures.rest whole.ensures.small (omega (arith, c.if-whole-eq0.false)) lead (sym c.goes_on.ensures ∙ c.if-goes_on.false) (let e = c.in-Some.ensures in cc)
