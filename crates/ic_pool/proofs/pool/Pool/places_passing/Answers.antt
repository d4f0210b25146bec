use Rattle.std.proofs.Common.{◌∙◌, ℕ, List, [], ◌∷◌, ap, subst, sym}
use Rattle.ic_pool.specs.MentionPlaces.{HasPassing}
use Rattle.ic_pool.specs.Mentions.{some_in}
use Rattle.ic_pool.specs.Pool.{PoolState}
use Rattle.ic_pool.specs.Topics.{mentions_some}
use Rattle.ic_pool.proofs.MentionedLemmas.{narrower}
use Rattle.ic_pool.proofs.pool.Pool.places_passing.Goals as goal

pub passing_at-requires : goal.passing_at-requires
passing_at-requires g c =
    let same = c.deref.ensures.value ∙ ap (λ (s : PoolState). s.formulas) c.self.view_is in
    let about = mentions_some (c.args.topic ∷ []) in
    let test = some_in (g.T.MentionTest.is_sheet c.args.test.now) (g.T.MentionTest.is_word c.args.test.now) (g.T.MentionTest.is_local c.args.test.now) in
    let has = subst (λ (ps : List ℕ). HasPassing about ps c.args.self.now.formulas) (sym c.deref-2.ensures.value) c.in_ok-places.ensures.all in
    narrower about test c.deref-2.result.now c.deref.result.now (λ x e. c.requires x e)
    (subst (HasPassing about c.deref-2.result.now) (sym same) has)
