use Rattle.std.proofs.Common.{chars, not, subst, sym, ap, ◌∙◌}
use Rattle.ic_parts.specs.Book.{IsValidBook, ModelState}
use Rattle.ic_parts.proofs.TypedLemmas.{plain_text}
use Rattle.ic_book.proofs.model.Model.is_typed_text.Goals as goal

pub returns : goal.returns
returns c =
    ap not c.is_nothing.ensures
    ∙ plain_text c.args.self.now.book (subst (λ (m : ModelState). IsValidBook m.book) c.self.view_is c.self.invariant.book) (chars c.args.text.now) (sym c.in_ok-needs_quoting.ensures ∙ c.if-branch.false)
