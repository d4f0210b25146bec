use Rattle.std.proofs.Common.{refl, arith, to_z, of_z, w32, ◌+ℤ◌, pos}
use Rattle.std.proofs.lemmas.Int.{ints, to_z-of_z}
use Rattle.ic_grid.proofs.ReleaseLemmas.{columns_begun, columns_done, columns_more}
use Rattle.ic_grid.proofs.changes.unspill_row.Goals as goal

pub loop-at-init : goal.loop-at-init
loop-at-init c = record {
  least = omega (arith, ints);
  most = omega (arith, ints);
  done = columns_begun c.args.cells.now c.args.anchor (to_z w32 (of_z w32 c.args.row)) (to_z w32 (of_z w32 c.args.column)) (to_z w32 (of_z w32 c.args.column)) refl;
}

pub loop-at-preserved : goal.loop-at-preserved
loop-at-preserved c = record {
  least = omega (arith, ints);
  most = omega (arith, ints);
  done =
      columns_more c.args.cells.now c.args.anchor (to_z w32 (of_z w32 c.args.row)) (to_z w32 (of_z w32 c.args.column)) (to_z w32 c.loop-at.at-bits) (to_z w32 (of_z w32 (to_z w32 c.loop-at.at-bits +ℤ pos 1)))
      c.loop-at.cells c.unspill.new.cells c.loop-at.invariant.least (omega (arith, ints)) c.loop-at.invariant.done c.unspill.ensures;
}

pub returns : goal.returns
returns c =
    columns_done c.args.cells.now c.args.anchor c.args.row c.args.column c.args.last_column (to_z w32 (of_z w32 c.args.row)) (to_z w32 (of_z w32 c.args.column)) (to_z w32 c.loop-at.at-bits)
    c.loop-at.cells (to_z-of_z w32 c.args.row c.ranges.row) (to_z-of_z w32 c.args.column c.ranges.column) (grind (arith, ints)) c.loop-at.invariant.done
