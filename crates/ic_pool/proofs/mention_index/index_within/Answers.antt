use Rattle.ic_pool.proofs.MergeLemmas.{put_where_searched}
use Rattle.ic_pool.proofs.mention_index.index_within.Goals as goal

pub returns-in-Err-clause-ascend : goal.returns-in-Err-clause-ascend
returns-in-Err-clause-ascend c = put_where_searched c.args.places.now c.args.place c.in-Err.index c.requires c.in-Err.ensures.position
