use Rattle.std.proofs.Common.{◌∙◌, ap, length, sym}
use Rattle.ic_pool.specs.Mentions.{formula_after, is_changed_by}
use Rattle.ic_pool.specs.Pool.{PoolState}
use Rattle.ic_pool.proofs.ChangeLemmas.{untouched_stays}
use Rattle.ic_pool.proofs.MentionedLemmas.{none_there}
use Rattle.ic_pool.proofs.RewriteLemmas.{none_changed}
use Rattle.ic_pool.proofs.pool.Pool.prepare.Goals as goal

pub returns-then-is_empty : goal.returns-then-is_empty
returns-then-is_empty g c =
    let counted = c.self.inside.formulas.ok.0 ∙ ap (λ (s : PoolState). length s.formulas) c.self.view_is in
    let nothing =
    none_changed (formula_after (g.C.BookChange.change c.args.change.now) c.args.scope) (is_changed_by (g.C.BookChange.change c.args.change.now) c.args.scope) c.args.self.now.formulas (λ k x e fails. untouched_stays (g.C.BookChange.change c.args.change.now) c.args.scope x fails)
    c.new.result c.new.ensures.changes c.new.ensures.places c.new.ensures.keys (λ k x e. absurd (none_there c.args.self.now.formulas _ counted (sym c.is_empty.ensures ∙ c.if-is_empty.true) k x e)) in
    record { made = nothing.made; listed = nothing.listed; fits = nothing.fits }
