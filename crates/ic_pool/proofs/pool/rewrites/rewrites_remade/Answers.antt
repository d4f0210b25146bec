use Rattle.std.proofs.Common.{◌+◌, drop, get_or}
use Rattle.std.proofs.lemmas.List.{drop_all, drop_more}
use Rattle.ic_pool.specs.Remade.{LeavesUntouched}
use Rattle.ic_pool.proofs.RemadeLemmas.{all_at}
use Rattle.ic_pool.proofs.RewriteLemmas.{all_looked, none_looked, one_looked}
use Rattle.ic_pool.proofs.pool.rewrites.rewrites_remade.Goals as goal

pub loop-at-init : goal.loop-at-init
loop-at-init g c =
    none_looked ((g.R.Remaking.made c.args.remaking.now).becomes c.args.scope) ((g.R.Remaking.made c.args.remaking.now).touches c.args.scope)
    c.args.formulas.now c.args.places.now c.new-rewrites.result c.new-rewrites.ensures.changes c.new-rewrites.ensures.places c.new-rewrites.ensures.keys
    c.requires.ascend c.requires.places

pub loop-at-preserved : goal.loop-at-preserved
loop-at-preserved g c =
    one_looked ((g.R.Remaking.made c.args.remaking.now).becomes c.args.scope) ((g.R.Remaking.made c.args.remaking.now).touches c.args.scope) c.args.formulas.now (λ k x e. all_at (LeavesUntouched (g.R.Remaking.made c.args.remaking.now) c.args.scope) c.args.formulas.now k x c.requires.leaves e)
    (drop c.loop-at.at-index c.args.places.now) (get_or c.args.places.now c.loop-at.at-index 0) (drop (c.loop-at.at-index + 1) c.args.places.now)
    c.loop-at.rewrites c.note_remade_at.new.self
    (drop_more c.args.places.now c.loop-at.at-index 0 c.loop-at-test.true) c.loop-at.invariant c.in_ok-note_remade_at.ensures

pub returns-clause-made : goal.returns-clause-made
returns-clause-made g c =
    (all_looked ((g.R.Remaking.made c.args.remaking.now).becomes c.args.scope) ((g.R.Remaking.made c.args.remaking.now).touches c.args.scope) c.args.formulas.now (λ k x e. all_at (LeavesUntouched (g.R.Remaking.made c.args.remaking.now) c.args.scope) c.args.formulas.now k x c.requires.leaves e)
    (drop c.loop-at.at-index c.args.places.now) c.loop-at.rewrites (drop_all c.loop-at.at-index c.args.places.now c.loop-at-test.false)
    c.loop-at.invariant).made

pub returns-clause-listed : goal.returns-clause-listed
returns-clause-listed g c =
    (all_looked ((g.R.Remaking.made c.args.remaking.now).becomes c.args.scope) ((g.R.Remaking.made c.args.remaking.now).touches c.args.scope) c.args.formulas.now (λ k x e. all_at (LeavesUntouched (g.R.Remaking.made c.args.remaking.now) c.args.scope) c.args.formulas.now k x c.requires.leaves e)
    (drop c.loop-at.at-index c.args.places.now) c.loop-at.rewrites (drop_all c.loop-at.at-index c.args.places.now c.loop-at-test.false)
    c.loop-at.invariant).changes

pub returns-clause-fits : goal.returns-clause-fits
returns-clause-fits g c =
    (all_looked ((g.R.Remaking.made c.args.remaking.now).becomes c.args.scope) ((g.R.Remaking.made c.args.remaking.now).touches c.args.scope) c.args.formulas.now (λ k x e. all_at (LeavesUntouched (g.R.Remaking.made c.args.remaking.now) c.args.scope) c.args.formulas.now k x c.requires.leaves e)
    (drop c.loop-at.at-index c.args.places.now) c.loop-at.rewrites (drop_all c.loop-at.at-index c.args.places.now c.loop-at-test.false)
    c.loop-at.invariant).fits
