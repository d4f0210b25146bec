use mir.Val.{SFits}
use Rattle.std.proofs.Common.{rules, w32, ap, sym, ◌∙◌}
use Rattle.ic_grid.specs.Calls.{can_write_array}
use Rattle.ic_grid.specs.Shape.{celled}
use Rattle.ic_machine.specs.Refusal.{first_refusal}
use Rattle.ic_sheets.proofs.CellLemmas.{stored_block}
use Rattle.ic_parts.specs.Arrays.{array_causes}
use Rattle.ic_parts.specs.Refused.{TellsOnly}
use Rattle.ic_parts.proofs.ArrayWritten.{array_may, array_tells}
use Rattle.ic_parts.proofs.CellReads.{of_error}
use Rattle.ic_parts.proofs.blocks.array_fits.Goals as goal

pub returns-in_err-can_write_array : goal.returns-in_err-can_write_array
returns-in_err-can_write_array c =
    let b = c.args.block in
    let row : SFits w32 b.row = search rules in
    let column : SFits w32 b.column = search rules in
    let width : SFits w32 b.width = search rules in
    let height : SFits w32 b.height = search rules in
    let g = c.args.grid.now in
    let may = ap (can_write_array celled g.merged_cells g.cells) (sym (stored_block b.row b.column b.width b.height row column width height)) ∙ sym c.in_err-can_write_array.ensures in
    of_error (λ r. TellsOnly r (first_refusal (array_causes g b))) c.from_residual.result c.from_residual.ensures (array_tells g b (sym c.is_area.ensures ∙ c.if-not-is_area.false) c.in_err-can_write_array.field-0.0 may)

pub returns : goal.returns
returns c =
    let b = c.args.block in
    let row : SFits w32 b.row = search rules in
    let column : SFits w32 b.column = search rules in
    let width : SFits w32 b.width = search rules in
    let height : SFits w32 b.height = search rules in
    let g = c.args.grid.now in
    let may = ap (can_write_array celled g.merged_cells g.cells) (sym (stored_block b.row b.column b.width b.height row column width height)) ∙ sym c.in_ok-can_write_array.ensures in
    array_may g b (sym c.is_area.ensures ∙ c.if-not-is_area.false) may
