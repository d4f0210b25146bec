use Rattle.std.proofs.Common.{◌≡◌, ◌<◌, length}
use Rattle.std.specs.List.{AllByRecursion}
use Rattle.ic_pool.specs.Pool.{dangling_count}
use Rattle.ic_pool.specs.Rewrites.{changed_by}
use Rattle.ic_pool.proofs.pool.rewrites.put_all.Given as goal

-- what is left to do to the formulas gives what all changes give
abbrev pub invariant-loop-change : goal.invariant-loop-change
invariant-loop-change l = record {
  left : changed_by l.change-iterator.rest.items l.formulas ≡ changed_by l.fn.changes.items l.fn.formulas;
  within : AllByRecursion (λ change. change.at < length l.fn.formulas) l.change-iterator.rest.items;
  counted : l.count ≡ dangling_count l.formulas;
}
