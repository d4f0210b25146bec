use Rattle.std.proofs.Common.{chars}
use Rattle.ic_tree.proofs.DigitLemmas.{number_by_parts}
use Rattle.ic_tree.proofs.lexer.numbers.number_at.Goals as goal

pub returns-in-Some : goal.returns-in-Some
returns-in-Some g c =
    let whole = c.whole_part-whole in
    let fraction = c.fraction_part-fraction in
    number_by_parts (g.D.Dialect.meaning c.args.d.now) (g.met.D.Dialect.laws c.args.d.now) c.decimal.result (chars c.args.text.now) (chars whole.result.rest.now) (chars fraction.result.rest.now) whole.result.value whole.result.count fraction.result.value fraction.result.count _
    c.decimal.ensures whole.ensures.value whole.ensures.count whole.ensures.rest fraction.ensures.value fraction.ensures.count fraction.ensures.rest c.in-Some.ensures

pub returns-in-None : goal.returns-in-None
returns-in-None g c =
    let whole = c.whole_part-whole in
    let fraction = c.fraction_part-fraction in
    number_by_parts (g.D.Dialect.meaning c.args.d.now) (g.met.D.Dialect.laws c.args.d.now) c.decimal.result (chars c.args.text.now) (chars whole.result.rest.now) (chars fraction.result.rest.now) whole.result.value whole.result.count fraction.result.value fraction.result.count _
    c.decimal.ensures whole.ensures.value whole.ensures.count whole.ensures.rest fraction.ensures.value fraction.ensures.count fraction.ensures.rest c.in-None.ensures
