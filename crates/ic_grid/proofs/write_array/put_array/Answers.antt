use Rattle.ic_grid.proofs.PaddedLemmas.{loosened_full, padded_arrays, padded_inside, padded_placed}
use Rattle.ic_grid.proofs.write_array.put_array.Goals as goal

pub prepare_block-requires-clause-inside : goal.prepare_block-requires-clause-inside
prepare_block-requires-clause-inside c = padded_inside c.args.block.now c.args.cells.now c.fill_up.new.cells c.in_ok-fill_up.ensures.padded c.requires.area c.requires.inside

pub prepare_block-requires-clause-arrays : goal.prepare_block-requires-clause-arrays
prepare_block-requires-clause-arrays c = padded_arrays c.args.block.now c.args.cells.now c.fill_up.new.cells c.in_ok-fill_up.ensures.padded c.requires.arrays

pub put_all-requires-clause-full : goal.put_all-requires-clause-full
put_all-requires-clause-full c =
    loosened_full c.args.block.now c.args.cells.now c.fill_up.new.cells c.in_ok-fill_up.ensures.padded c.prepare_block.new.cells c.in_ok-fill_up.ensures.full c.prepare_block.ensures

pub returns-clause-ok : goal.returns-clause-ok
returns-clause-ok c =
    padded_placed c.args.block.now c.args.cells.now c.fill_up.new.cells c.in_ok-fill_up.ensures.padded c.requires.area c.args.items.items c.requires.count c.prepare_block.new.cells c.put_all.new.cells
    c.prepare_block.ensures c.put_all.ensures
