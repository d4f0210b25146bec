use Rattle.std.proofs.Common.{◌≤ℤ◌}
use Rattle.ic_grid.proofs.ChangeLemmas.{far}
use Rattle.ic_grid.proofs.SoughtLemmas.{NoneSoFar}
use Rattle.ic_grid.specs.Arrays.{array_at, is_sought}
use Rattle.ic_grid.specs.Shape.{celled}
use Rattle.ic_grid.proofs.arrays.has_sought.Given as goal

-- none of the places so far belongs to such an array
abbrev pub invariant-loop-place : goal.invariant-loop-place
invariant-loop-place l = record {
  row : l.block.row ≤ℤ l.at.0;
  column : l.block.column ≤ℤ l.at.1;
  none : NoneSoFar l.cells l.block (λ p. is_sought l.sought l.block (array_at celled l.cells p)) l.at;
}

abbrev pub decreases-loop-place : goal.decreases-loop-place
decreases-loop-place l = far l.block l.at
