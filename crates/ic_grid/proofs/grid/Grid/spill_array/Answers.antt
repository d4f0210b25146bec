use Rattle.std.proofs.Common.{ap}
use Rattle.ic_grid.proofs.SpillAllowed.{array_fits, is_spilled, items_count, placed_same, still_whole, turned}
use Rattle.ic_grid.specs.Contents.{Contents}
use Rattle.ic_cells.specs.declared.cell.Cell.{Cell}
use Rattle.ic_grid.specs.declared.grid.Grid.{Grid}
use Rattle.ic_grid.proofs.grid.Grid.spill_array.Goals as goal

pub array_cells-requires-clause-area : goal.array_cells-requires-clause-area
array_cells-requires-clause-area c = (array_fits c.args.self.now c.requires.whole c.args.block.now c.args.f c.args.s c.args.array.now c.requires.formula c.args.values.items c.requires.allowed).area

pub array_cells-requires-clause-count : goal.array_cells-requires-clause-count
array_cells-requires-clause-count c = (array_fits c.args.self.now c.requires.whole c.args.block.now c.args.f c.args.s c.args.array.now c.requires.formula c.args.values.items c.requires.allowed).places

pub place_array-requires-clause-area : goal.place_array-requires-clause-area
place_array-requires-clause-area c = (array_fits c.args.self.now c.requires.whole c.args.block.now c.args.f c.args.s c.args.array.now c.requires.formula c.args.values.items c.requires.allowed).area

pub place_array-requires-clause-count : goal.place_array-requires-clause-count
place_array-requires-clause-count c = items_count c.args.self.now c.requires.whole c.args.block.now c.args.f c.args.s c.args.array.now c.requires.formula c.args.values.items c.requires.allowed c.in_ok-items.items.items c.in_ok-items.ensures

pub returns-in_err-place_array-clause-whole : goal.returns-in_err-place_array-clause-whole
returns-in_err-place_array-clause-whole c = turned c.args.self.now c.requires.whole c.place_array.new.cells c.in_err-place_array.ensures.err

pub returns-clause-ok : goal.returns-clause-ok
returns-clause-ok c =
    ap (λ (n : Contents Cell). let g : Grid = record c.args.self.now { cells = n } in g)
    (is_spilled c.args.self.now c.requires.whole c.args.block.now c.args.f c.args.s c.args.array.now c.requires.formula c.args.values.items c.requires.allowed c.place_array.new.cells
    (placed_same c.args.self.now c.args.block.now c.args.f c.args.s c.args.array.now.kind c.args.values.items c.in_ok-items.items.items c.in_ok-items.ensures c.place_array.new.cells c.in_ok-place_array.ensures.ok))

pub returns-clause-whole : goal.returns-clause-whole
returns-clause-whole c =
    still_whole c.args.self.now c.requires.whole c.args.block.now c.args.f c.args.s c.args.array.now c.requires.formula c.args.values.items c.requires.allowed c.place_array.new.cells
    (placed_same c.args.self.now c.args.block.now c.args.f c.args.s c.args.array.now.kind c.args.values.items c.in_ok-items.items.items c.in_ok-items.ensures c.place_array.new.cells c.in_ok-place_array.ensures.ok)
