use Rattle.std.proofs.Common.{◌∙◌, ap}
use Rattle.ic_grid.proofs.CrossLemmas.{cleared_alone}
use Rattle.ic_grid.specs.Change.{changed, remade_where}
use Rattle.ic_grid.specs.Block.{is_in_block}
use Rattle.ic_grid.specs.declared.changes.Change.{Change}
use Rattle.ic_grid.proofs.clear.clear_inside.Goals as goal

pub returns : goal.returns
returns c =
    cleared_alone c.args.cells.now c.args.block.now c.requires.none c.requires.arrays c.requires.area c.args.all c.change_block.new.cells
    (c.change_block.ensures ∙ ap (λ (k : Change). remade_where (is_in_block c.args.block.now) (changed k) c.args.cells.now) c.wiping.ensures)
