use Rattle.std.proofs.Common.{◌≡◌, ◌≤◌, ◌+◌, length}
use Rattle.ic_pool.specs.LookUp.{AreHashed, found}
use Rattle.ic_pool.proofs.IndexLemmas.{KeepsFrom}
use Rattle.ic_pool.proofs.pool.index.index_of.Given as goal

-- each place that was passed is found, in one step for each
abbrev pub invariant-loop-at : goal.invariant-loop-at
invariant-loop-at g l = record {
  within : l.at ≤ length l.formulas;
  counted : l.steps + l.at ≡ l.initial.steps + length l.formulas;
  found : KeepsFrom (found l.index l.formulas) l.at l.formulas;
  hashed : AreHashed l.index l.formulas;
}

abbrev pub decreases-loop-at : goal.decreases-loop-at
decreases-loop-at g l = l.at
