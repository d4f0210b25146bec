use Rattle.std.proofs.Common.{◌≡◌, ◌≤◌, take}
use Rattle.ic_pool.specs.Pool.{dangling_count}
use Rattle.ic_pool.proofs.pool.index.dangling_in.Given as goal

abbrev pub invariant-loop-formula : goal.invariant-loop-formula
invariant-loop-formula l = record { counted : l.count ≡ dangling_count (take l.formula-index l.formulas); few : l.count ≤ l.formula-index }
