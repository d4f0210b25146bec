use Rattle.std.proofs.Common.{drop}
use Rattle.ic_pool.proofs.RewriteLemmas.{RewrittenSoFar}
use Rattle.ic_pool.proofs.pool.rewrites.rewrites_remade.Given as goal

abbrev pub invariant-loop-at : goal.invariant-loop-at
invariant-loop-at g l =
    RewrittenSoFar ((g.R.Remaking.made l.remaking).becomes l.scope) ((g.R.Remaking.made l.remaking).touches l.scope) l.formulas (drop l.at-index l.places)
    l.rewrites
