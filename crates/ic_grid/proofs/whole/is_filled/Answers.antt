use Rattle.std.proofs.Common.{arith, to_z, of_z, w32, ◌+ℤ◌, pos}
use Rattle.std.proofs.lemmas.Int.{ints}
use Rattle.ic_grid.proofs.BlockLemmas.{area_bounds}
use Rattle.ic_grid.proofs.HandedInLemmas.{never, so_begun, so_more}
use Rattle.ic_grid.proofs.WholeLemmas.{rows_done, rows_failed}
use Rattle.ic_grid.specs.HandedIn.{IsRowFilled}
use Rattle.ic_grid.specs.Shape.{celled}
use Rattle.ic_grid.proofs.whole.is_filled.Goals as goal

pub overflow_add-row-end : goal.overflow_add-row-end
overflow_add-row-end c = let b = area_bounds c.args.block.now c.requires in omega (arith, ints)

pub loop-row-init : goal.loop-row-init
loop-row-init c = so_begun (IsRowFilled celled c.args.cells.now c.args.block.now) c.args.block.now.row (to_z w32 (of_z w32 c.args.block.now.row)) (omega (arith, ints))

pub returns-then-not-is_row_filled : goal.returns-then-not-is_row_filled
returns-then-not-is_row_filled c =
    let b = area_bounds c.args.block.now c.requires in
    rows_failed celled c.args.cells.now c.args.block.now c.requires (to_z w32 c.loop-row.row-bits) c.loop-row.invariant.low (omega (arith, ints))
    (never c.is_row_filled.result c.is_row_filled.ensures c.if-not-is_row_filled.true)

pub loop-row-preserved : goal.loop-row-preserved
loop-row-preserved c =
    let b = area_bounds c.args.block.now c.requires in
    so_more (IsRowFilled celled c.args.cells.now c.args.block.now) c.args.block.now.row (to_z w32 c.loop-row.row-bits) (to_z w32 (of_z w32 (to_z w32 c.loop-row.row-bits +ℤ pos 1))) c.loop-row.invariant
    (c.is_row_filled.ensures.0 c.if-not-is_row_filled.false) (omega (arith, ints))

pub returns : goal.returns
returns c =
    let b = area_bounds c.args.block.now c.requires in
    rows_done celled c.args.cells.now c.args.block.now c.requires (to_z w32 c.loop-row.row-bits) (grind (arith, ints)) c.loop-row.invariant
