use Rattle.std.proofs.Common.{◌≤ℤ◌}
use Rattle.ic_grid.proofs.ChangeLemmas.{far}
use Rattle.ic_grid.proofs.PrepareLemmas.{Progress}
use Rattle.ic_grid.proofs.prepare.prepare_block.Given as goal

-- the arrays with a cell among the places so far are released
abbrev pub invariant-loop-place : goal.invariant-loop-place
invariant-loop-place l = record {
  row : l.block.row ≤ℤ l.at.0;
  column : l.block.column ≤ℤ l.at.1;
  done : Progress l.fn.cells l.block l.at l.cells;
}

abbrev pub decreases-loop-place : goal.decreases-loop-place
decreases-loop-place l = far l.block l.at
