use Rattle.std.proofs.Common.{◌≡◌, ◌≤ℤ◌}
use Rattle.ic_grid.specs.Change.{changed, remade_where}
use Rattle.ic_grid.proofs.ChangeLemmas.{far, walked}
use Rattle.ic_grid.proofs.changes.change_block.Given as goal

-- the cells so far are changed
abbrev pub invariant-loop-place : goal.invariant-loop-place
invariant-loop-place l = record {
  row : l.block.row ≤ℤ l.at.0;
  column : l.block.column ≤ℤ l.at.1;
  done : l.cells ≡ remade_where (walked l.fn.cells l.block (changed l.change) l.at) (changed l.change) l.fn.cells;
}

abbrev pub decreases-loop-place : goal.decreases-loop-place
decreases-loop-place l = far l.block l.at
