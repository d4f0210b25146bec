use Rattle.std.proofs.Common.{◌≡◌, ◌≤◌, ◌+◌, length}
use Rattle.ic_pool.specs.LookUp.{AreHashed, found}
use Rattle.ic_pool.specs.Pool.{KnowsRest}
use Rattle.ic_pool.proofs.pool.index.put_late.Given as goal

-- all are known but those that are still late, in one step for each that was put in
abbrev pub invariant-loop-at : goal.invariant-loop-at
invariant-loop-at g l = record {
  knows : KnowsRest (found l.index l.formulas) l.late l.formulas;
  hashed : AreHashed l.index l.formulas;
  counted : l.steps + length l.late ≡ l.initial.steps + length l.initial.late;
  grows : l.initial.steps ≤ l.steps;
}

abbrev pub decreases-loop-at : goal.decreases-loop-at
decreases-loop-at g l = length l.late
