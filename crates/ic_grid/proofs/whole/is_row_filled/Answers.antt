use Rattle.std.proofs.Common.{◌≡◌, ◌∙◌, sym, true, arith, to_z, of_z, w32, ◌+ℤ◌, pos}
use Rattle.std.proofs.lemmas.Int.{ints, to_z-of_z}
use Rattle.ic_grid.proofs.BlockLemmas.{area_bounds}
use Rattle.ic_grid.proofs.HandedInLemmas.{so_begun, so_more}
use Rattle.ic_grid.proofs.WholeLemmas.{row_done, row_failed}
use Rattle.ic_grid.specs.HandedIn.{is_filled_at}
use Rattle.ic_grid.specs.Shape.{celled}
use Rattle.ic_grid.proofs.whole.is_row_filled.Goals as goal

pub overflow_add-column-end : goal.overflow_add-column-end
overflow_add-column-end c = let b = area_bounds c.args.block.now c.requires in omega (arith, ints)

pub loop-column-init : goal.loop-column-init
loop-column-init c = so_begun (λ n. is_filled_at celled c.args.cells.now c.args.block.now (to_z w32 (of_z w32 c.args.row), n) ≡ true) c.args.block.now.column (to_z w32 (of_z w32 c.args.block.now.column)) (omega (arith, ints))

pub returns-then-not-is_filled_at : goal.returns-then-not-is_filled_at
returns-then-not-is_filled_at c =
    let b = area_bounds c.args.block.now c.requires in
    row_failed celled c.args.cells.now c.args.block.now c.requires c.args.row (to_z w32 (of_z w32 c.args.row)) (to_z w32 c.loop-column.column-bits) (to_z-of_z w32 c.args.row c.ranges.row) c.loop-column.invariant.low (omega (arith, ints))
    (sym c.is_filled_at.ensures ∙ c.if-not-is_filled_at.true)

pub loop-column-preserved : goal.loop-column-preserved
loop-column-preserved c =
    let b = area_bounds c.args.block.now c.requires in
    so_more (λ n. is_filled_at celled c.args.cells.now c.args.block.now (to_z w32 (of_z w32 c.args.row), n) ≡ true) c.args.block.now.column (to_z w32 c.loop-column.column-bits) (to_z w32 (of_z w32 (to_z w32 c.loop-column.column-bits +ℤ pos 1))) c.loop-column.invariant
    (sym c.is_filled_at.ensures ∙ c.if-not-is_filled_at.false) (omega (arith, ints))

pub returns : goal.returns
returns c =
    let b = area_bounds c.args.block.now c.requires in
    row_done celled c.args.cells.now c.args.block.now c.requires c.args.row (to_z w32 (of_z w32 c.args.row)) (to_z w32 c.loop-column.column-bits) (to_z-of_z w32 c.args.row c.ranges.row) (grind (arith, ints)) c.loop-column.invariant
