use Rattle.std.proofs.Common.{◌≡◌, ◌+ℤ◌, ◌≤ℤ◌}
use Rattle.ic_grid.specs.Block.{first_place, is_in_lines}
use Rattle.ic_grid.specs.Contents.{changed_where}
use Rattle.ic_grid.specs.Prepare.{unspilled}
use Rattle.ic_grid.specs.Shape.{celled}
use Rattle.ic_grid.proofs.changes.unspill_block.Given as goal

-- the rows so far are done
abbrev pub invariant-loop-row : goal.invariant-loop-row
invariant-loop-row l = record {
  least : l.block.row ≤ℤ l.row;
  most : l.row ≤ℤ (l.block.row +ℤ l.block.height);
  done : l.cells ≡ changed_where (is_in_lines l.block.row l.row l.block.column (l.block.column +ℤ l.block.width)) (unspilled celled (first_place l.block)) l.fn.cells;
}
