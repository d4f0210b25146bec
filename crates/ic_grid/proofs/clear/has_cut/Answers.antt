use Rattle.ic_grid.proofs.CrossLemmas.{none_cut}
use Rattle.ic_grid.proofs.clear.has_cut.Goals as goal

pub returns-then-not-crossing : goal.returns-then-not-crossing
returns-then-not-crossing c = none_cut c.args.cells.now c.args.block.now (c.requires.none c.if-not-crossing.true)
