use Rattle.ic_run.proofs.CountLemmas.{refusals_told}
use Rattle.ic_run.proofs.counts.push_refusals.Goals as goal

pub returns : goal.returns
returns c told are = refusals_told c.push_each.result _ _ c.args.replies.now told are c.push_each.ensures
