use Rattle.std.proofs.Common.{sym, ◌∙◌}
use Rattle.std.specs.Str.{chars}
use Rattle.std.proofs.lemmas.Result.{IfOk-weaker}
use Rattle.ic_parts.specs.Book.{core_of, notations_in}
use Rattle.ic_parts.proofs.NameLemmas.{shown_bare, shown_with_equals}
use Rattle.ic_book.proofs.model.Model.show_body.Goals as goal

pub returns-then-has_equals : goal.returns-then-has_equals
unfolding chars
returns-then-has_equals c =
    IfOk-weaker c.show_after.result _ _
    (λ text e. e ∙ shown_with_equals (notations_in c.args.self.now.book) (core_of c.args.self.now.book) c.args.definition.now.has_equals c.args.definition.now.body c.body.result.now (sym c.has_equals.ensures ∙ c.if-has_equals.true) c.body.ensures)
    c.show_after.ensures

pub returns : goal.returns
unfolding chars
returns c =
    IfOk-weaker c.show_after-2.result _ _
    (λ text e. e ∙ shown_bare (notations_in c.args.self.now.book) (core_of c.args.self.now.book) c.args.definition.now.has_equals c.args.definition.now.body c.body-2.result.now (sym c.has_equals.ensures ∙ c.if-has_equals.false) c.body-2.ensures)
    c.show_after-2.ensures
