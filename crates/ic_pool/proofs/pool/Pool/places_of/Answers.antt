use Rattle.std.proofs.Common.{◌∙◌, ap, length, subst}
use Rattle.std.proofs.lemmas.Result.{IfOk-weaker}
use Rattle.ic_pool.specs.MentionPlaces.{KnowsAll}
use Rattle.ic_pool.specs.Pool.{PoolState}
use Rattle.ic_pool.proofs.MentionedLemmas.{places_all, places_found}
use Rattle.ic_pool.proofs.pool.Pool.places_of.Goals as goal

pub returns-then-self-clause-all : goal.returns-then-self-clause-all
returns-then-self-clause-all c =
    let same = ap (λ (s : PoolState). s.formulas) c.self.view_is in
    let knows = subst (KnowsAll c.self.inside.mentions) same (c.self.invariant.mentioned c.if-self.true) in
    IfOk-weaker c.places_of.result _ _
    (λ places found. places_found c.self.inside.mentions c.args.topics.now c.args.self.now.formulas places.items knows found) c.places_of.ensures.all

pub returns-else-self-clause-all : goal.returns-else-self-clause-all
returns-else-self-clause-all c =
    let counted = c.len.ensures ∙ c.self.inside.formulas.ok.0 ∙ ap (λ (s : PoolState). length s.formulas) c.self.view_is in
    IfOk-weaker c.all_places.result _ _ (λ places all. places_all c.args.topics.now c.args.self.now.formulas places.items c.len.result counted all)
    c.all_places.ensures.all
