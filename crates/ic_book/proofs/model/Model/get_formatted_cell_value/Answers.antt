use Rattle.std.proofs.Common.{[], refl, ap, subst, ◌∙◌}
use Rattle.ic_laws.specs.CoreBook.{CellPlace}
use Rattle.ic_machine.specs.Reply.{text_field}
use Rattle.ic_machine.specs.subjects.Reading.{formatted_step}
use Rattle.ic_sheets.specs.Sheet.{sheet_of}
use Rattle.ic_parts.specs.Book.{IsValidBook, ModelState}
use Rattle.ic_parts.specs.Does.{Wanted}
use Rattle.ic_parts.specs.Fields.{string_only}
use Rattle.ic_parts.specs.Shown.{content_formatted}
use Rattle.ic_parts.specs.Whole.{whole_of}
use Rattle.ic_parts.proofs.ReadLemmas.{sheet_told}
use Rattle.ic_parts.proofs.ShownLemmas.{formatted_told}
use Rattle.ic_parts.proofs.StyleLemmas.{passes_memory, passes_missing}
use Rattle.ic_cells.proofs.MapLemmas.{stored_pair}
use Rattle.ic_book.proofs.model.Model.get_formatted_cell_value.Goals as goal

pub returns-in_err-worksheet : goal.returns-in_err-worksheet
unfolding formatted_step
returns-in_err-worksheet c = record {
  does =
      passes_missing c.args.self.now (subst (λ (m : ModelState). IsValidBook m.book) c.self.view_is c.self.invariant.book) c.args.sheet Wanted string_only [] (formatted_told (whole_of c.args.self.now.book) (c.args.row, c.args.column)) c.in_err-worksheet.field-0.0 c.in_err-worksheet.ensures
      c.from_residual.result c.from_residual.ensures;
}

pub formatted_in-requires : goal.formatted_in-requires
formatted_in-requires c = (c.args.sheet, c.in_ok-worksheet.ensures)

pub returns-in_err-formatted_in : goal.returns-in_err-formatted_in
unfolding formatted_step
returns-in_err-formatted_in c = record {
  does =
      passes_memory c.args.self.now (subst (λ (m : ModelState). IsValidBook m.book) c.self.view_is c.self.invariant.book) c.args.sheet string_only [] (formatted_told (whole_of c.args.self.now.book) (c.args.row, c.args.column)) (sheet_of c.in_ok-worksheet.worksheet.now) c.in_ok-worksheet.ensures refl
      c.from_residual-in_err-formatted_in.result c.from_residual-in_err-formatted_in.ensures;
}

pub returns : goal.returns
unfolding formatted_step
returns c = record {
  does =
      sheet_told c.args.self.now c.args.sheet (subst (λ (m : ModelState). IsValidBook m.book) c.self.view_is c.self.invariant.book) Wanted string_only [] (formatted_told (whole_of c.args.self.now.book) (c.args.row, c.args.column)) (sheet_of c.in_ok-worksheet.worksheet.now) c.in_ok-worksheet.ensures refl c.in_ok-formatted_in.field-0 (ap text_field (c.in_ok-formatted_in.ensures ∙ ap (λ (p : CellPlace). content_formatted c.args.self.now.book (sheet_of c.in_ok-worksheet.worksheet.now) p) (stored_pair c.args.row c.args.column c.ranges.row c.ranges.column)));
}
