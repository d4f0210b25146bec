use Rattle.std.proofs.Common.{◌<◌, [], length, refl, ap, sym, subst, ◌∙◌}
use Rattle.ic_cells.specs.Style.{style_at}
use Rattle.ic_grid.specs.Shape.{celled}
use Rattle.ic_grid.specs.Style as grid_style
use Rattle.ic_machine.specs.Styling.{style_fields}
use Rattle.ic_machine.specs.subjects.Styles.{cell_style_step}
use Rattle.ic_sheets.specs.Sheet.{sheet_of}
use Rattle.ic_parts.specs.Book.{IsValidBook, ModelState}
use Rattle.ic_parts.specs.Does.{Wanted}
use Rattle.ic_parts.specs.Whole.{whole_of}
use Rattle.ic_parts.proofs.GridLemmas.{style_below}
use Rattle.ic_parts.proofs.StyleLemmas.{passes_memory, passes_missing, style_told, tells_style}
use Rattle.ic_cells.proofs.MapLemmas.{stored_pair}
use Rattle.ic_book.proofs.model.Model.get_style_for_cell.Goals as goal

pub returns-in_err-worksheet : goal.returns-in_err-worksheet
unfolding cell_style_step
returns-in_err-worksheet c = record {
  does =
      passes_missing c.args.self.now (subst (λ (m : ModelState). IsValidBook m.book) c.self.view_is c.self.invariant.book) c.args.sheet Wanted style_fields [] (style_told (whole_of c.args.self.now.book) (c.args.row, c.args.column)) c.in_err-worksheet.field-0.0 c.in_err-worksheet.ensures
      c.from_residual.result c.from_residual.ensures;
}

pub copy_of-requires : goal.copy_of-requires
copy_of-requires c =
    let grid = c.in_ok-worksheet.worksheet.now.grid in
    let valid = subst (λ (m : ModelState). IsValidBook m.book) c.self.view_is c.self.invariant.book in
    let shown = c.style_at-number.ensures ∙ ap (grid_style.style_at celled grid.cells grid.rows grid.columns) (stored_pair c.args.row c.args.column c.ranges.row c.ranges.column) in
    subst (λ k. k < length c.self.inside.lists.styles) (sym shown)
    (subst (λ (m : ModelState). grid_style.style_at celled grid.cells grid.rows grid.columns (c.args.row, c.args.column) < length m.book.styles) (sym c.self.view_is)
    (style_below c.args.self.now.book valid c.args.sheet (sheet_of c.in_ok-worksheet.worksheet.now) c.in_ok-worksheet.ensures (c.args.row, c.args.column)))

pub returns-in_err-copy_of : goal.returns-in_err-copy_of
unfolding cell_style_step
returns-in_err-copy_of c = record {
  does =
      passes_memory c.args.self.now (subst (λ (m : ModelState). IsValidBook m.book) c.self.view_is c.self.invariant.book) c.args.sheet style_fields [] (style_told (whole_of c.args.self.now.book) (c.args.row, c.args.column)) (sheet_of c.in_ok-worksheet.worksheet.now) c.in_ok-worksheet.ensures refl
      c.from_residual-in_err-copy_of.result c.from_residual-in_err-copy_of.ensures;
}

pub returns : goal.returns
returns c = record {
  does =
      let grid = c.in_ok-worksheet.worksheet.now.grid in
      let valid = subst (λ (m : ModelState). IsValidBook m.book) c.self.view_is c.self.invariant.book in
      let shown = c.style_at-number.ensures ∙ ap (grid_style.style_at celled grid.cells grid.rows grid.columns) (stored_pair c.args.row c.args.column c.ranges.row c.ranges.column) in
      tells_style c.args.self.now valid c.args.sheet (sheet_of c.in_ok-worksheet.worksheet.now) c.in_ok-worksheet.ensures (c.args.row, c.args.column) c.style_at-number.result _ shown
      (c.in_ok-copy_of.ensures ∙ ap (λ (m : ModelState). style_at m.book.styles c.style_at-number.result) c.self.view_is);
}
