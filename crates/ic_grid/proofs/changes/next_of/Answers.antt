use Rattle.std.proofs.Common.{sym}
use Rattle.ic_grid.proofs.ChangeLemmas.{next_itself, some_next}
use Rattle.ic_grid.proofs.changes.next_of.Goals as goal

pub returns-clause-some : goal.returns-clause-some
returns-clause-some c = some_next c.args.cells.now c.args.block.now c.args.at c.next_in.result c.next_in.ensures.some

pub returns-then-has-clause-some : goal.returns-then-has-clause-some
returns-then-has-clause-some c = next_itself c.args.cells.now c.args.block.now c.args.at (sym c.if-has.ensures)
