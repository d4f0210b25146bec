use Rattle.ic_pool.proofs.MergeLemmas.{ascended}
use Rattle.ic_pool.proofs.pool.index.all_places.Goals as goal

pub returns-clause-ascend : goal.returns-clause-ascend
returns-clause-ascend c = ascended c.loop-at.at c.loop-at.places.items c.loop-at.invariant.ascend
