use Rattle.ic_grid.proofs.PaddedLemmas.{padded, padded_full}
use Rattle.ic_grid.proofs.room.fill_up.Goals as goal

pub returns-clause-padded : goal.returns-clause-padded
returns-clause-padded c = padded c.args.block.now c.args.cells.now c.requires.inside c.requires.arrays c.make_room.new.cells c.change_block.new.cells c.in_ok-make_room.ensures.marked c.change_block.ensures

pub returns-clause-full : goal.returns-clause-full
returns-clause-full c = padded_full c.args.block.now c.make_room.new.cells c.change_block.new.cells c.in_ok-make_room.ensures.full c.change_block.ensures
