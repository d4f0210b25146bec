use Rattle.ic_grid.proofs.ArrayLemmas.{array_area}
use Rattle.ic_grid.proofs.SpillPlaced.{array_placed, still_full}
use Rattle.ic_grid.specs.Shape.{celled}
use Rattle.ic_grid.proofs.spill.place_array.Goals as goal

pub unspill_block-requires : goal.unspill_block-requires
unspill_block-requires c = array_area celled c.args.cells.now c.requires.arrays _ c.args.array.now c.requires.array

pub put_all-requires-clause-full : goal.put_all-requires-clause-full
put_all-requires-clause-full c = still_full c.args.block.now c.args.array.now c.make_room.new.cells c.unspill_block.new.cells c.in_ok-make_room.ensures.full c.unspill_block.ensures

pub returns-clause-ok : goal.returns-clause-ok
returns-clause-ok c =
    array_placed c.args.block.now c.args.array.now c.args.cells.now c.requires.arrays c.requires.array c.requires.area c.args.items.items c.requires.count c.make_room.new.cells c.unspill_block.new.cells
    c.in_ok-make_room.ensures.marked c.unspill_block.ensures c.put_all.new.cells c.put_all.ensures
