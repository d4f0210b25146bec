use Rattle.std.proofs.Common.{◌≡◌, ◌∙◌, Some, ap, chars, option_map, subst, sym}
use Rattle.ic_tables.specs.Tables.{locale_of}
use Rattle.ic_parts.specs.Book.{IsValidBook, ModelState}
use Rattle.ic_parts.proofs.ExtendLemmas.{copies_formula, copies_refused, copies_text, text_wants}
use Rattle.ic_parts.proofs.WholeWritten.{language_there}
use Rattle.ic_book.proofs.model.Model.extend_copied_value.Goals as goal

pub returns-in_err-id : goal.returns-in_err-id
returns-in_err-id c = record {
  does =
      copies_refused c.args.self.now (subst (λ (m : ModelState). IsValidBook m.book) c.self.view_is c.self.invariant.book) c.locale.result.now (language_there c.args.self.now.book (subst (λ (m : ModelState). IsValidBook m.book) c.self.view_is c.self.invariant.book)).0
      (subst (λ (m : ModelState). locale_of m.book.tables m.book.locale ≡ Some c.locale.result.now) c.self.view_is c.locale.ensures.found)
      (language_there c.args.self.now.book (subst (λ (m : ModelState). IsValidBook m.book) c.self.view_is c.self.invariant.book)).1 c.args.source.now c.args.target.now (chars c.args.value.now)
      c.in_err-id.field-0.0 c.in_err-id.ensures.refused c.from_residual.result c.from_residual.ensures;
}

pub returns-in_err-same_text-in-None : goal.returns-in_err-same_text-in-None
returns-in_err-same_text-in-None c = record {
  does =
      text_wants c.args.self.now (subst (λ (m : ModelState). IsValidBook m.book) c.self.view_is c.self.invariant.book) c.locale.result.now (language_there c.args.self.now.book (subst (λ (m : ModelState). IsValidBook m.book) c.self.view_is c.self.invariant.book)).0
      (subst (λ (m : ModelState). locale_of m.book.tables m.book.locale ≡ Some c.locale.result.now) c.self.view_is c.locale.ensures.found)
      (language_there c.args.self.now.book (subst (λ (m : ModelState). IsValidBook m.book) c.self.view_is c.self.invariant.book)).1 c.args.source.now c.args.target.now (chars c.args.value.now)
      c.in_ok-id.ensures.refused (sym c.formula_without_prefix.ensures.exact ∙ ap (option_map (λ f. chars f.now)) c.in-None.is) c.from_residual-in_err-same_text-in-None.result c.from_residual-in_err-same_text-in-None.ensures;
}

pub returns-in-Some : goal.returns-in-Some
returns-in-Some c = record {
  does =
      copies_formula c.args.self.now (subst (λ (m : ModelState). IsValidBook m.book) c.self.view_is c.self.invariant.book) c.locale.result.now (language_there c.args.self.now.book (subst (λ (m : ModelState). IsValidBook m.book) c.self.view_is c.self.invariant.book)).0
      (subst (λ (m : ModelState). locale_of m.book.tables m.book.locale ≡ Some c.locale.result.now) c.self.view_is c.locale.ensures.found)
      (language_there c.args.self.now.book (subst (λ (m : ModelState). IsValidBook m.book) c.self.view_is c.self.invariant.book)).1 c.args.source.now c.args.target.now (chars c.args.value.now)
      c.in_ok-id.ensures.refused (chars c.in-Some.formula.now) (sym c.formula_without_prefix.ensures.exact ∙ ap (option_map (λ f. chars f.now)) c.in-Some.is) c.in_ok-id.id c.in_ok-id.ensures.id
      c.formula_copied.result c.formula_copied.ensures;
}

pub returns-in_ok-same_text-in-None : goal.returns-in_ok-same_text-in-None
returns-in_ok-same_text-in-None c = record {
  does =
      copies_text c.args.self.now (subst (λ (m : ModelState). IsValidBook m.book) c.self.view_is c.self.invariant.book) c.locale.result.now (language_there c.args.self.now.book (subst (λ (m : ModelState). IsValidBook m.book) c.self.view_is c.self.invariant.book)).0
      (subst (λ (m : ModelState). locale_of m.book.tables m.book.locale ≡ Some c.locale.result.now) c.self.view_is c.locale.ensures.found)
      (language_there c.args.self.now.book (subst (λ (m : ModelState). IsValidBook m.book) c.self.view_is c.self.invariant.book)).1 c.args.source.now c.args.target.now (chars c.args.value.now)
      c.in_ok-id.ensures.refused (sym c.formula_without_prefix.ensures.exact ∙ ap (option_map (λ f. chars f.now)) c.in-None.is) c.in_ok-same_text-in-None.field-0 c.in_ok-same_text-in-None.ensures;
}
