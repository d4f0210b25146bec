use Rattle.std.proofs.Common.{[], length, option_map, refl, ap, sym, subst, ◌∙◌}
use Rattle.std.specs.FinMap as finite
use Rattle.ic_cells.specs.Cell.{style_of}
use Rattle.ic_cells.specs.Style.{style_at}
use Rattle.ic_machine.specs.Fields.{optional_style_fields}
use Rattle.ic_machine.specs.Valid.{IsStyleNumber}
use Rattle.ic_machine.specs.subjects.Styles.{own_style_step}
use Rattle.ic_laws.specs.CoreBook.{CellPlace}
use Rattle.ic_sheets.specs.Sheet.{sheet_of}
use Rattle.ic_parts.specs.Book.{IsValidBook, ModelState}
use Rattle.ic_parts.specs.Does.{Wanted}
use Rattle.ic_parts.specs.Whole.{whole_of}
use Rattle.ic_parts.proofs.StyleLemmas.{own_below, own_told, passes_memory, passes_missing, tells_own}
use Rattle.ic_cells.proofs.MapLemmas.{stored_pair}
use Rattle.ic_book.proofs.model.Model.get_cell_style_or_none.Goals as goal

pub returns-in_err-worksheet : goal.returns-in_err-worksheet
unfolding own_style_step
returns-in_err-worksheet c = record {
  does =
      passes_missing c.args.self.now (subst (λ (m : ModelState). IsValidBook m.book) c.self.view_is c.self.invariant.book) c.args.sheet Wanted optional_style_fields [] (own_told (whole_of c.args.self.now.book) (c.args.row, c.args.column)) c.in_err-worksheet.field-0.0 c.in_err-worksheet.ensures
      c.from_residual.result c.from_residual.ensures;
}

pub copy_if_set-requires : goal.copy_if_set-requires
copy_if_set-requires c =
    let cells = c.in_ok-worksheet.worksheet.now.grid.cells in
    let valid = subst (λ (m : ModelState). IsValidBook m.book) c.self.view_is c.self.invariant.book in
    let own = c.own_style-number.ensures ∙ ap (λ (p : CellPlace). option_map style_of (finite.get cells p)) (stored_pair c.args.row c.args.column c.ranges.row c.ranges.column) in
    subst (IsStyleNumber (length c.self.inside.lists.styles)) (sym own)
    (subst (λ (m : ModelState). IsStyleNumber (length m.book.styles) (option_map style_of (finite.get cells (c.args.row, c.args.column)))) (sym c.self.view_is)
    (own_below c.args.self.now valid c.args.sheet (sheet_of c.in_ok-worksheet.worksheet.now) c.in_ok-worksheet.ensures (c.args.row, c.args.column)))

pub returns-in_err-copy_if_set : goal.returns-in_err-copy_if_set
unfolding own_style_step
returns-in_err-copy_if_set c = record {
  does =
      passes_memory c.args.self.now (subst (λ (m : ModelState). IsValidBook m.book) c.self.view_is c.self.invariant.book) c.args.sheet optional_style_fields [] (own_told (whole_of c.args.self.now.book) (c.args.row, c.args.column)) (sheet_of c.in_ok-worksheet.worksheet.now) c.in_ok-worksheet.ensures refl
      c.from_residual-in_err-copy_if_set.result c.from_residual-in_err-copy_if_set.ensures;
}

pub returns : goal.returns
returns c = record {
  does =
      let cells = c.in_ok-worksheet.worksheet.now.grid.cells in
      let valid = subst (λ (m : ModelState). IsValidBook m.book) c.self.view_is c.self.invariant.book in
      let own = c.own_style-number.ensures ∙ ap (λ (p : CellPlace). option_map style_of (finite.get cells p)) (stored_pair c.args.row c.args.column c.ranges.row c.ranges.column) in
      tells_own c.args.self.now valid c.args.sheet (sheet_of c.in_ok-worksheet.worksheet.now) c.in_ok-worksheet.ensures (c.args.row, c.args.column) c.own_style-number.result _ own
      (c.in_ok-copy_if_set.ensures ∙ ap (λ (m : ModelState). option_map (style_at m.book.styles) c.own_style-number.result) c.self.view_is);
}
