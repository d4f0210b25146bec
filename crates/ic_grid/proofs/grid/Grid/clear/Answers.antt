use Rattle.std.proofs.Common.{refl}
use Rattle.ic_grid.proofs.ClearLemmas.{cleared_whole}
use Rattle.ic_grid.proofs.grid.Grid.clear.Goals as goal

pub returns-clause-whole : goal.returns-clause-whole
returns-clause-whole c =
    cleared_whole c.args.self.now c.at-block.result c.args.all c.requires.whole c.clear_block.new.cells c.clear_block.ensures _ refl
