use Rattle.std.proofs.Common.{ap, subst}
use Rattle.ic_pool.specs.MentionPlaces.{KnowsAll}
use Rattle.ic_pool.specs.Pool.{PoolState}
use Rattle.ic_pool.proofs.MentionedLemmas.{none_mentioned}
use Rattle.ic_pool.proofs.pool.Pool.mentions_none.Goals as goal

pub returns : goal.returns
returns c = λ e.
    let same = ap (λ (s : PoolState). s.formulas) c.self.view_is in
    let knows = subst (KnowsAll c.self.inside.mentions) same (c.self.invariant.mentioned c.if-not-self.false) in
    none_mentioned c.self.inside.mentions c.args.topics.now c.args.self.now.formulas knows (c.has_none.ensures e)
