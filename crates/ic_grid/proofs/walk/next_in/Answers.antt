use Rattle.ic_grid.proofs.WalkLemmas.{none_any, some_any}
use Rattle.ic_grid.proofs.walk.next_in.Goals as goal

pub returns-clause-some : goal.returns-clause-some
returns-clause-some c = some_any c.args.cells.now c.args.block.now c.args.from c.next_wanted.result c.next_wanted.ensures.some

pub returns-clause-none : goal.returns-clause-none
returns-clause-none c = none_any c.args.cells.now c.args.block.now c.args.from c.next_wanted.result c.next_wanted.ensures.none
