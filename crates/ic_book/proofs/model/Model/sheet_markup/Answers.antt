use Rattle.std.proofs.Common.{[], refl, ap, subst}
use Rattle.std.specs.Option.{option_map_or}
use Rattle.ic_machine.specs.Reply.{text_field}
use Rattle.ic_machine.specs.subjects.Reading.{markup_step}
use Rattle.ic_sheets.specs.Sheet.{sheet_of}
use Rattle.ic_parts.specs.Book.{IsValidBook, ModelState}
use Rattle.ic_parts.specs.Does.{Never}
use Rattle.ic_parts.specs.Markup.{sheet_shown}
use Rattle.ic_parts.specs.Whole.{whole_of}
use Rattle.ic_parts.proofs.ReadLemmas.{sheet_told}
use Rattle.ic_parts.proofs.MarkupLemmas.{markup_told}
use Rattle.ic_parts.proofs.StyleLemmas.{passes_missing}
use Rattle.ic_book.specs.Markup.{markup_fields}
use Rattle.ic_book.specs.declared.markup.Markup.{Markup}
use Rattle.ic_book.proofs.model.Model.sheet_markup.Goals as goal

pub returns-in_err-sheet_at : goal.returns-in_err-sheet_at
unfolding markup_step
returns-in_err-sheet_at c = record {
  does =
      passes_missing c.args.self.now (subst (λ (m : ModelState). IsValidBook m.book) c.self.view_is c.self.invariant.book) c.args.sheet Never (λ (m : Markup). markup_fields m.model.now.book m.sheet) []
      (markup_told (whole_of c.args.self.now.book)) c.in_err-sheet_at.field-0.0 c.in_err-sheet_at.ensures c.from_residual.result c.from_residual.ensures;
}

pub returns : goal.returns
unfolding markup_step
returns c = record {
  does =
      sheet_told c.args.self.now c.args.sheet (subst (λ (m : ModelState). IsValidBook m.book) c.self.view_is c.self.invariant.book) Never (λ (m : Markup). markup_fields m.model.now.book m.sheet) []
      (markup_told (whole_of c.args.self.now.book)) (sheet_of c.in_ok-sheet_at.field-0.now) c.in_ok-sheet_at.ensures refl _
      (ap (λ o. text_field (option_map_or (sheet_shown c.args.self.now.book) o [])) c.in_ok-sheet_at.ensures);
}
