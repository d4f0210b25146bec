use Rattle.std.proofs.Common.{ap, sym, option_map, option_and_then, ◌∙◌}
use Rattle.std.specs.FinMap as finite
use Rattle.std.specs.Prelude.{option_copied}
use Rattle.ic_cells.specs.Cell.{cell_formula_index}
use Rattle.ic_sheets.specs.Sheet.{formula_in}
use Rattle.ic_parts.proofs.ModelLemmas.{formula_by_cell, got_formula}
use Rattle.ic_cells.proofs.MapLemmas.{stored_pair}
use Rattle.ic_parts.proofs.formulas.formula_at.Goals as goal

pub returns-in_err-cell : goal.returns-in_err-cell
returns-in_err-cell c =
    let pool = c.args.worksheet.now.pool.formulas in
    let cells = c.args.worksheet.now.grid.cells in
    let none = ap (finite.get cells) (sym (stored_pair c.args.row c.args.column c.ranges.row c.ranges.column)) ∙ sym c.get.ensures ∙ ap option_copied c.in_err-cell.was in
    ap (option_map (λ f. f.now)) c.from_residual.ensures ∙ sym (formula_by_cell pool cells c.args.row c.args.column ∙ ap (λ o. option_map (formula_in pool) (option_and_then cell_formula_index o)) none)

pub returns-in_err-place : goal.returns-in_err-place
returns-in_err-place c =
    let pool = c.args.worksheet.now.pool.formulas in
    let cells = c.args.worksheet.now.grid.cells in
    let there = ap (finite.get cells) (sym (stored_pair c.args.row c.args.column c.ranges.row c.ranges.column)) ∙ sym c.get.ensures ∙ ap option_copied c.in_ok-cell.was in
    ap (option_map (λ f. f.now)) c.from_residual-in_err-place.ensures
    ∙ sym (formula_by_cell pool cells c.args.row c.args.column ∙ ap (λ o. option_map (formula_in pool) (option_and_then cell_formula_index o)) there ∙ ap (option_map (formula_in pool)) (sym c.get_formula.ensures ∙ c.in_err-place.was))

pub returns : goal.returns
returns c =
    let pool = c.args.worksheet.now.pool.formulas in
    let cells = c.args.worksheet.now.grid.cells in
    let there = ap (finite.get cells) (sym (stored_pair c.args.row c.args.column c.ranges.row c.ranges.column)) ∙ sym c.get.ensures ∙ ap option_copied c.in_ok-cell.was in
    let at = sym c.get_formula.ensures ∙ c.in_ok-place.was in
    c.get-2.ensures ∙ got_formula pool c.in_ok-place.place (c.requires (c.args.row, c.args.column) c.in_ok-cell.cell.now c.in_ok-place.place there at)
    ∙ sym (formula_by_cell pool cells c.args.row c.args.column ∙ ap (λ o. option_map (formula_in pool) (option_and_then cell_formula_index o)) there ∙ ap (option_map (formula_in pool)) at)
