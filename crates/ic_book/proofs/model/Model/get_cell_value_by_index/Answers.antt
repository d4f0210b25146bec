use Rattle.std.proofs.Common.{◌≡◌, Some, ap, subst, ◌∙◌}
use Rattle.std.specs.Option.{option_copied, option_map_or}
use Rattle.ic_tables.specs.Tables.{language_of}
use Rattle.ic_cells.specs.Cell.{value_of}
use Rattle.ic_cells.specs.declared.value.CellValue.TheVariants as values
use Rattle.ic_parts.specs.Book.{ModelState}
use Rattle.ic_parts.proofs.CellReads.{found_there, lacks_value, tells_value, wants_value}
use Rattle.ic_cells.proofs.MapLemmas.{stored_pair}
use Rattle.ic_book.proofs.model.Model.get_cell_value_by_index.Goals as goal

pub returns : goal.returns
returns c = record {
  does =
      tells_value c.args.self.now c.cell_at.ensures.valid c.args.sheet_index c.args.row c.args.column c.language.result.now
      (subst (λ (m : ModelState). language_of m.book.tables m.book.language ≡ Some c.language.result.now) c.self.view_is c.language.ensures.found) c.in_ok-cell.cell (found_there c.args.self.now c.args.sheet_index c.args.row c.args.column c.in_ok-cell.cell _ (stored_pair c.args.row c.args.column c.ranges.row c.ranges.column) c.in_ok-cell.ensures.finds) c.in_ok-value_in.field-0
      (c.in_ok-value_in.ensures ∙ ap (λ strings. option_map_or (value_of strings c.language.result.now) (option_copied c.in_ok-cell.cell) values.None) c.as_items-strings.ensures ∙ ap (λ (m : ModelState). option_map_or (value_of m.book.strings c.language.result.now) (option_copied c.in_ok-cell.cell) values.None) c.self.view_is);
}

pub returns-in_err-cell : goal.returns-in_err-cell
returns-in_err-cell c = record {
  does = lacks_value c.args.self.now c.cell_at.ensures.valid c.args.sheet_index c.args.row c.args.column c.from_residual.result c.in_err-cell.field-0.0 c.from_residual.ensures c.in_err-cell.ensures.finds;
}

pub returns-in_err-value_in : goal.returns-in_err-value_in
returns-in_err-value_in c = record {
  does = wants_value c.args.self.now c.cell_at.ensures.valid c.args.sheet_index c.args.row c.args.column c.in_ok-cell.cell (found_there c.args.self.now c.args.sheet_index c.args.row c.args.column c.in_ok-cell.cell _ (stored_pair c.args.row c.args.column c.ranges.row c.ranges.column) c.in_ok-cell.ensures.finds) c.from_residual-in_err-value_in.result c.from_residual-in_err-value_in.ensures;
}
