use Rattle.std.proofs.Common.{refl, arith, to_z, of_z, w32, ◌+ℤ◌, pos}
use Rattle.std.proofs.lemmas.Int.{ints}
use Rattle.ic_grid.proofs.BlockLemmas.{area_bounds}
use Rattle.ic_grid.proofs.ReleaseLemmas.{rows_begun, rows_done, rows_more}
use Rattle.ic_grid.specs.Block.{first_place}
use Rattle.ic_grid.proofs.changes.unspill_block.Goals as goal

pub overflow_add-last_column : goal.overflow_add-last_column
overflow_add-last_column c = let b = area_bounds c.args.block.now c.requires in omega (arith, ints)

pub overflow_add-row-end : goal.overflow_add-row-end
overflow_add-row-end c = let b = area_bounds c.args.block.now c.requires in omega (arith, ints)

pub unspill_row-requires : goal.unspill_row-requires
unspill_row-requires c = let b = area_bounds c.args.block.now c.requires in omega (arith, ints)

pub loop-row-init : goal.loop-row-init
loop-row-init c =
    let b = area_bounds c.args.block.now c.requires in
    record {
      least = omega (arith, ints);
      most = omega (arith, ints);
      done = rows_begun c.args.cells.now (first_place c.args.block.now) c.args.block.now.row c.args.block.now.column (c.args.block.now.column +ℤ c.args.block.now.width) (to_z w32 (of_z w32 c.args.block.now.row)) (omega (arith, ints));
    }

pub loop-row-preserved : goal.loop-row-preserved
loop-row-preserved c =
    let b = area_bounds c.args.block.now c.requires in
    record {
      least = omega (arith, ints);
      most = omega (arith, ints);
      done =
          rows_more c.args.cells.now (first_place c.args.block.now) c.args.block.now.row c.args.block.now.column (c.args.block.now.column +ℤ c.args.block.now.width) (to_z w32 c.loop-row.row-bits)
          (to_z w32 (of_z w32 (to_z w32 c.loop-row.row-bits +ℤ pos 1))) (to_z w32 (of_z w32 c.args.block.now.column)) (to_z w32 (of_z w32 (to_z w32 (of_z w32 c.args.block.now.column) +ℤ to_z w32 (of_z w32 c.args.block.now.width))))
          (to_z w32 (of_z w32 c.args.block.now.row))
          c.loop-row.cells c.unspill_row.new.cells c.loop-row.invariant.least (omega (arith, ints)) (omega (arith, ints)) (omega (arith, ints)) (omega (arith, ints)) c.loop-row.invariant.done c.unspill_row.ensures refl;
    }

pub returns : goal.returns
returns c =
    let b = area_bounds c.args.block.now c.requires in
    rows_done c.args.cells.now (first_place c.args.block.now) c.args.block.now.row c.args.block.now.column (c.args.block.now.column +ℤ c.args.block.now.width) (c.args.block.now.row +ℤ c.args.block.now.height) (to_z w32 c.loop-row.row-bits)
    c.loop-row.cells (grind (arith, ints)) c.loop-row.invariant.done
