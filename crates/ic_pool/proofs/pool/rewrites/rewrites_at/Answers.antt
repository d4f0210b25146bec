use Rattle.std.proofs.Common.{◌+◌, drop, get_or}
use Rattle.std.proofs.lemmas.List.{drop_all, drop_more}
use Rattle.ic_pool.specs.Mentions.{formula_after, is_changed_by}
use Rattle.ic_pool.proofs.ChangeLemmas.{untouched_stays}
use Rattle.ic_pool.proofs.RewriteLemmas.{all_looked, none_looked, one_looked}
use Rattle.ic_pool.proofs.pool.rewrites.rewrites_at.Goals as goal

pub loop-at-init : goal.loop-at-init
loop-at-init g c =
    none_looked (formula_after (g.C.BookChange.change c.args.change.now) c.args.scope) (is_changed_by (g.C.BookChange.change c.args.change.now) c.args.scope)
    c.args.formulas.now c.args.places.now c.new-rewrites.result c.new-rewrites.ensures.changes c.new-rewrites.ensures.places c.new-rewrites.ensures.keys
    c.requires.ascend c.requires.places

pub loop-at-preserved : goal.loop-at-preserved
loop-at-preserved g c =
    one_looked (formula_after (g.C.BookChange.change c.args.change.now) c.args.scope) (is_changed_by (g.C.BookChange.change c.args.change.now) c.args.scope) c.args.formulas.now (λ k x e fails. untouched_stays (g.C.BookChange.change c.args.change.now) c.args.scope x fails)
    (drop c.loop-at.at-index c.args.places.now) (get_or c.args.places.now c.loop-at.at-index 0) (drop (c.loop-at.at-index + 1) c.args.places.now)
    c.loop-at.rewrites c.note_at.new.self
    (drop_more c.args.places.now c.loop-at.at-index 0 c.loop-at-test.true) c.loop-at.invariant c.in_ok-note_at.ensures

pub returns-clause-made : goal.returns-clause-made
returns-clause-made g c =
    (all_looked (formula_after (g.C.BookChange.change c.args.change.now) c.args.scope) (is_changed_by (g.C.BookChange.change c.args.change.now) c.args.scope) c.args.formulas.now (λ k x e fails. untouched_stays (g.C.BookChange.change c.args.change.now) c.args.scope x fails)
    (drop c.loop-at.at-index c.args.places.now) c.loop-at.rewrites (drop_all c.loop-at.at-index c.args.places.now c.loop-at-test.false)
    c.loop-at.invariant).made

pub returns-clause-listed : goal.returns-clause-listed
returns-clause-listed g c =
    (all_looked (formula_after (g.C.BookChange.change c.args.change.now) c.args.scope) (is_changed_by (g.C.BookChange.change c.args.change.now) c.args.scope) c.args.formulas.now (λ k x e fails. untouched_stays (g.C.BookChange.change c.args.change.now) c.args.scope x fails)
    (drop c.loop-at.at-index c.args.places.now) c.loop-at.rewrites (drop_all c.loop-at.at-index c.args.places.now c.loop-at-test.false)
    c.loop-at.invariant).listed

pub returns-clause-fits : goal.returns-clause-fits
returns-clause-fits g c =
    (all_looked (formula_after (g.C.BookChange.change c.args.change.now) c.args.scope) (is_changed_by (g.C.BookChange.change c.args.change.now) c.args.scope) c.args.formulas.now (λ k x e fails. untouched_stays (g.C.BookChange.change c.args.change.now) c.args.scope x fails)
    (drop c.loop-at.at-index c.args.places.now) c.loop-at.rewrites (drop_all c.loop-at.at-index c.args.places.now c.loop-at-test.false)
    c.loop-at.invariant).fits
