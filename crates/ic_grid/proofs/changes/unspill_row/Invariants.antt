use Rattle.std.proofs.Common.{◌≡◌, ◌+ℤ◌, ◌≤ℤ◌, pos}
use Rattle.ic_grid.specs.Block.{is_in_lines}
use Rattle.ic_grid.specs.Contents.{changed_where}
use Rattle.ic_grid.specs.Prepare.{unspilled}
use Rattle.ic_grid.specs.Shape.{celled}
use Rattle.ic_grid.proofs.changes.unspill_row.Given as goal

-- the columns so far are done
abbrev pub invariant-loop-at : goal.invariant-loop-at
invariant-loop-at l = record {
  least : l.column ≤ℤ l.at;
  most : l.at ≤ℤ l.last_column;
  done : l.cells ≡ changed_where (is_in_lines l.row (l.row +ℤ pos 1) l.column l.at) (unspilled celled l.anchor) l.fn.cells;
}
