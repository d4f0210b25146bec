use Rattle.std.proofs.Common.{[], ap, subst, ◌∙◌}
use Rattle.ic_grid.specs.Shape.{celled}
use Rattle.ic_grid.specs.Style.{style_at}
use Rattle.ic_machine.specs.Reply.{number_field}
use Rattle.ic_machine.specs.subjects.Styles.{style_index_step}
use Rattle.ic_sheets.specs.Sheet.{sheet_of}
use Rattle.ic_parts.specs.Book.{IsValidBook, ModelState}
use Rattle.ic_parts.specs.Does.{Never}
use Rattle.ic_parts.proofs.StyleLemmas.{number_told, passes_missing, tells_number}
use Rattle.ic_cells.proofs.MapLemmas.{stored_pair}
use Rattle.ic_book.proofs.model.Model.get_cell_style_index.Goals as goal

pub returns-in_err-worksheet : goal.returns-in_err-worksheet
unfolding style_index_step
returns-in_err-worksheet c = record {
  does =
      passes_missing c.args.self.now (subst (λ (m : ModelState). IsValidBook m.book) c.self.view_is c.self.invariant.book) c.args.sheet Never number_field [] (number_told (c.args.row, c.args.column)) c.in_err-worksheet.field-0.0 c.in_err-worksheet.ensures
      c.from_residual.result c.from_residual.ensures;
}

pub returns : goal.returns
returns c = record {
  does =
      let grid = c.in_ok-worksheet.worksheet.now.grid in
      tells_number c.args.self.now (subst (λ (m : ModelState). IsValidBook m.book) c.self.view_is c.self.invariant.book) c.args.sheet (sheet_of c.in_ok-worksheet.worksheet.now) c.in_ok-worksheet.ensures (c.args.row, c.args.column) c.style_at.result
      (c.style_at.ensures ∙ ap (style_at celled grid.cells grid.rows grid.columns) (stored_pair c.args.row c.args.column c.ranges.row c.ranges.column));
}
