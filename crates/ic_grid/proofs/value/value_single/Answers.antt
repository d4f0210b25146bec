use Rattle.ic_grid.proofs.ValueLemmas.{single_valued}
use Rattle.ic_grid.proofs.value.value_single.Goals as goal

pub returns : goal.returns
returns c = single_valued c.args.cells.now c.requires.arrays c.args.place c.args.f c.args.s c.requires.formula c.args.value c.replace.new.cells c.replace.ensures
