use Rattle.ic_cells.specs.declared.cell.Cell.{Cell}
use Rattle.ic_laws.proofs.core.CellWritten.{place_cmp_total, place_tied}
use Rattle.ic_grid.proofs.HandedInLemmas.{decided_as, entries_decided}
use Rattle.ic_grid.proofs.WholeLemmas.{whole_from, whole_to}
use Rattle.ic_grid.specs.Block.{Place}
use Rattle.ic_grid.specs.HandedIn.{IsWhole}
use Rattle.ic_grid.specs.Shape.{celled, shape_of}
use Rattle.ic_grid.proofs.grid.Grid.has_whole_arrays.Goals as goal

pub returns : goal.returns
returns c =
    decided_as c.are_whole.result
    (entries_decided (λ (p : Place) (x : Cell). IsWhole celled c.args.self.now.cells p (shape_of x)) place_cmp_total place_tied c.as_map.result.now c.args.self.now.cells c.as_map.ensures c.are_whole.result c.are_whole.ensures.all c.are_whole.ensures.ordered)
    (whole_from celled c.args.self.now.cells) (whole_to celled c.args.self.now.cells)
