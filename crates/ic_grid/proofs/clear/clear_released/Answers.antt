use Rattle.std.proofs.Common.{◌∙◌, ap}
use Rattle.ic_grid.proofs.ClearLemmas.{cleared_so}
use Rattle.ic_grid.specs.Change.{changed, remade_where}
use Rattle.ic_grid.specs.Block.{is_in_block}
use Rattle.ic_grid.specs.declared.changes.Change.{Change}
use Rattle.ic_grid.proofs.clear.clear_released.Goals as goal

pub returns : goal.returns
returns c =
    cleared_so c.args.cells.now c.args.block.now c.args.all c.prepare_block.new.cells c.change_block.new.cells c.prepare_block.ensures
    (c.change_block.ensures ∙ ap (λ (k : Change). remade_where (is_in_block c.args.block.now) (changed k) c.prepare_block.new.cells) c.wiping.ensures)
