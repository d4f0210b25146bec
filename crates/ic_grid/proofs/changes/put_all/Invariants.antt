use Rattle.std.proofs.Common.{◌≡◌, length}
use Rattle.std.specs.Vec.Iter.{into_iter_items}
use Rattle.ic_grid.proofs.RowLemmas.{IsAt}
use Rattle.ic_grid.specs.Block.{first_place}
use Rattle.ic_grid.specs.Rows.{IsFull, placed}
use Rattle.ic_grid.proofs.changes.put_all.Given as goal

-- what is left to be put where it stands gives what all gives
abbrev pub invariant-loop-item : goal.invariant-loop-item
invariant-loop-item l = record {
  at : IsAt l.block l.at (length (into_iter_items l.rest));
  full : IsFull l.block l.cells;
  left : placed l.block l.at (into_iter_items l.rest) l.cells ≡ placed l.block (first_place l.block) l.fn.items.items l.fn.cells;
}

abbrev pub decreases-loop-item : goal.decreases-loop-item
decreases-loop-item l = length (into_iter_items l.rest)
