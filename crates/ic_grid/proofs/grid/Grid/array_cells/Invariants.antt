use Rattle.std.proofs.Common.{length}
use Rattle.std.specs.Vec.Iter.{into_iter_items}
use Rattle.ic_grid.proofs.SpillCells.{IsFilling}
use Rattle.ic_grid.specs.Spill.{array_cells}
use Rattle.ic_grid.proofs.grid.Grid.array_cells.Given as goal

-- the cells so far
abbrev pub invariant-loop-v : goal.invariant-loop-v
invariant-loop-v l =
    IsFilling l.self.rows l.self.columns l.self.cells l.block (array_cells l.self.rows l.self.columns l.self.cells l.block l.fn.f l.fn.s l.fn.kind l.fn.values.items) l.items.items l.anchor l.at (into_iter_items l.rest)

abbrev pub decreases-loop-v : goal.decreases-loop-v
decreases-loop-v l = length (into_iter_items l.rest)
