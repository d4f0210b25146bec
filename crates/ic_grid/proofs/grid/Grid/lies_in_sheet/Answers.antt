use Rattle.std.proofs.Common.{◌≡◌, true}
use Rattle.ic_cells.specs.declared.cell.Cell.{Cell}
use Rattle.ic_laws.proofs.core.CellWritten.{place_cmp_total, place_tied}
use Rattle.ic_grid.proofs.HandedInLemmas.{entries_decided}
use Rattle.ic_grid.specs.Block.{Place, is_in_sheet}
use Rattle.ic_grid.proofs.grid.Grid.lies_in_sheet.Goals as goal

pub returns : goal.returns
returns c =
    entries_decided (λ (p : Place) (x : Cell). is_in_sheet p ≡ true) place_cmp_total place_tied c.as_map.result.now c.args.self.now.cells c.as_map.ensures c.are_in_sheet.result c.are_in_sheet.ensures.all c.are_in_sheet.ensures.ordered
