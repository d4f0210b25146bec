use Rattle.std.proofs.Common.{drop}
use Rattle.ic_pool.specs.Mentions.{formula_after, is_changed_by}
use Rattle.ic_pool.proofs.RewriteLemmas.{RewrittenSoFar}
use Rattle.ic_pool.proofs.pool.rewrites.rewrites_at.Given as goal

abbrev pub invariant-loop-at : goal.invariant-loop-at
invariant-loop-at g l =
    RewrittenSoFar (formula_after (g.C.BookChange.change l.change) l.scope) (is_changed_by (g.C.BookChange.change l.change) l.scope) l.formulas
    (drop l.at-index l.places) l.rewrites
