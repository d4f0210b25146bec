use Rattle.std.proofs.Common.{◌≡◌, ℕ, Err, subst}
use Rattle.ic_grid.specs.Calls.{can_write}
use Rattle.ic_grid.specs.Shape.{celled}
use Rattle.ic_laws.specs.CoreBook.{CellPlace}
use Rattle.ic_parts.proofs.GridLemmas.{cell_told}
use Rattle.ic_cells.proofs.MapLemmas.{stored_pair}
use Rattle.ic_parts.proofs.values.allowed_style.Goals as goal

pub returns-in-Err-clause-refused : goal.returns-in-Err-clause-refused
returns-in-Err-clause-refused c =
    let grid = c.args.grid.now in
    let refused = subst (λ (p : CellPlace). can_write celled grid.merged_cells grid.cells p ≡ Err c.in-Err.error) (stored_pair c.args.row c.args.column c.ranges.row c.ranges.column) c.in-Err.ensures.refused in
    cell_told ℕ grid (c.args.row, c.args.column) c.in-Err.error c.from.result refused c.from.ensures
