use Rattle.ic_grid.proofs.RoomLemmas.{taken_back}
use Rattle.ic_grid.proofs.room.make_room.Goals as goal

pub returns-in-Err-clause-err : goal.returns-in-Err-clause-err
returns-in-Err-clause-err c = taken_back c.args.block.now c.args.cells.now c.requires.inside c.requires.arrays c.mark_all.new.cells c.change_block.new.cells c.mark_all.ensures.marked c.change_block.ensures
