use Rattle.std.proofs.Common.{◌∙◌, ℕ, List, ap, subst, sym}
use Rattle.ic_pool.specs.MentionPlaces.{HasPassing}
use Rattle.ic_pool.specs.Mentions.{formula_after, is_changed_by}
use Rattle.ic_pool.specs.Pool.{PoolState}
use Rattle.ic_pool.specs.Topics.{mentions_some}
use Rattle.ic_pool.proofs.ChangeLemmas.{untouched_stays}
use Rattle.ic_pool.proofs.MentionedLemmas.{narrower}
use Rattle.ic_pool.proofs.RewriteLemmas.{none_changed}
use Rattle.ic_pool.proofs.pool.Pool.prepare_about.Goals as goal

pub returns-then-mentions_none : goal.returns-then-mentions_none
returns-then-mentions_none g c =
    let nothing =
    none_changed (formula_after (g.C.BookChange.change c.args.change.now) c.args.scope) (is_changed_by (g.C.BookChange.change c.args.change.now) c.args.scope) c.args.self.now.formulas (λ k x e fails. untouched_stays (g.C.BookChange.change c.args.change.now) c.args.scope x fails)
    c.new.result c.new.ensures.changes c.new.ensures.places c.new.ensures.keys (λ k x e. c.requires c.args.scope x (c.mentions_none.ensures c.if-mentions_none.true k x e)) in
    record { made = nothing.made; listed = nothing.listed; fits = nothing.fits }

pub rewrites_at-requires-clause-places : goal.rewrites_at-requires-clause-places
rewrites_at-requires-clause-places g c =
    let same = c.deref.ensures.value ∙ ap (λ (s : PoolState). s.formulas) c.self.view_is in
    let about = mentions_some c.args.topics.now in
    let has = subst (λ (ps : List ℕ). HasPassing about ps c.args.self.now.formulas) (sym c.deref-2.ensures.value) c.in_ok-places.ensures.all in
    narrower about (is_changed_by (g.C.BookChange.change c.args.change.now) c.args.scope) c.deref-2.result.now c.deref.result.now
    (λ x e. c.requires c.args.scope x e)
    (subst (HasPassing about c.deref-2.result.now) (sym same) has)
