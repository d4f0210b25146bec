use Rattle.std.proofs.Common.{map}
use Rattle.ic_dump.proofs.TakenLemmas.{bodies_more}
use Rattle.ic_dump.proofs.taken.push_unfound_by.Goals as goal

pub loop-index-preserved : goal.loop-index-preserved
loop-index-preserved c = bodies_more c.args.model.now.book.definitions c.loop-index.index (map (λ name. name.now) c.args.names.now.items) _ _ c.loop-index.invariant c.in_ok-push_body.ensures
