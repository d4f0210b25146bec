use Rattle.ic_grid.proofs.PassLemmas.{no_crossing_in}
use Rattle.ic_grid.proofs.walk.has_crossing.Goals as goal

pub returns-in-None : goal.returns-in-None
returns-in-None c = λ is. no_crossing_in c.args.cells.now c.args.block.now c.first.result c.first.ensures c.in-None.ensures.none
