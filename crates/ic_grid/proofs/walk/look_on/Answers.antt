use Rattle.std.proofs.Common.{arith, sym}
use Rattle.std.proofs.lemmas.Int.{ints}
use Rattle.ic_grid.proofs.BlockLemmas.{area_bounds}
use Rattle.ic_grid.proofs.PassLemmas.{ahead_begun, ahead_below, ahead_end, ahead_found, ahead_more, ahead_passed}
use Rattle.ic_grid.proofs.walk.look_on.Goals as goal

pub overflow_add-last_row : goal.overflow_add-last_row
overflow_add-last_row c = let b = area_bounds c.args.block.now c.requires in omega (arith, ints)

pub loop-place-init : goal.loop-place-init
loop-place-init c = ahead_begun c.args.map.now c.args.wanted c.args.block.now c.args.from c.range-cells.result (c.range-cells.ensures.in_range tt) (c.range-cells.ensures.between tt) c.range-cells.ensures.ordered

pub returns-then-stops_at : goal.returns-then-stops_at
returns-then-stops_at c =
    ahead_found c.args.map.now c.args.wanted c.args.block.now c.args.from c.loop-place.cells c.loop-place.invariant c.in-Some.place.now c.in-Some.cell.now c.next.new.self c.in-Some.ensures.steps
    (sym c.if-stops_at.ensures)

pub returns-then-place-last_row : goal.returns-then-place-last_row
returns-then-place-last_row c =
    let b = area_bounds c.args.block.now c.requires in
    ahead_below c.args.map.now c.args.wanted c.args.block.now c.args.from c.loop-place.cells c.loop-place.invariant c.in-Some.place.now c.in-Some.cell.now c.next.new.self c.in-Some.ensures.steps
    (omega (arith, ints, c.if-place-last_row.true))

pub returns-then-not-goes_on : goal.returns-then-not-goes_on
returns-then-not-goes_on c =
    let b = area_bounds c.args.block.now c.requires in
    ahead_passed c.args.map.now c.args.wanted c.args.block.now c.args.from c.loop-place.cells c.loop-place.invariant c.in-Some.place.now c.in-Some.cell.now c.next.new.self c.in-Some.ensures.steps
    (c.goes_on.ensures c.if-not-goes_on.true) (omega (arith, ints, c.if-place-last_row.false))

pub loop-place-preserved : goal.loop-place-preserved
loop-place-preserved c =
    ahead_more c.args.map.now c.args.wanted c.args.block.now c.args.from c.loop-place.cells c.loop-place.invariant c.in-Some.place.now c.in-Some.cell.now c.next.new.self c.in-Some.ensures.steps
    (sym c.if-stops_at.ensures)

pub returns : goal.returns
returns c = ahead_end c.args.map.now c.args.wanted c.args.block.now c.args.from c.loop-place.cells c.loop-place.invariant c.in_default.ensures.steps.0
