use Rattle.std.proofs.Common.{◌≡◌, true}
use Rattle.ic_cells.specs.declared.cell.Cell.{Cell}
use Rattle.ic_laws.proofs.core.CellWritten.{place_cmp_total, place_tied}
use Rattle.ic_grid.proofs.HandedInLemmas.{entries_decided}
use Rattle.ic_grid.specs.Arrays.{array_from}
use Rattle.ic_grid.specs.Block.{Place}
use Rattle.ic_grid.specs.HandedIn.{is_unmerged}
use Rattle.ic_grid.specs.Shape.{shape_of}
use Rattle.ic_grid.proofs.handed_in.has_unmerged_arrays.Goals as goal

pub returns : goal.returns
returns c =
    entries_decided (λ (p : Place) (x : Cell). is_unmerged c.args.merges.now (array_from p (shape_of x)) ≡ true) place_cmp_total place_tied c.as_map.result.now c.args.cells.now c.as_map.ensures c.are_unmerged.result c.are_unmerged.ensures.all c.are_unmerged.ensures.ordered
