use Rattle.std.proofs.Common.{drop}
use Rattle.ic_pool.proofs.LateLemmas.{AreLeft}
use Rattle.ic_pool.proofs.pool.rewrites.remove_keys.Given as goal

-- the keys that were passed are out
abbrev pub invariant-loop-old : goal.invariant-loop-old
invariant-loop-old l = AreLeft l.olds (drop l.old-index l.olds) l.initial.index l.index
