use Rattle.std.proofs.Common.{arith}
use Rattle.std.proofs.lemmas.Int.{ints}
use Rattle.ic_grid.proofs.BlockLemmas.{area_bounds}
use Rattle.ic_grid.proofs.ChangeLemmas.{first_bounds, next_bounds, next_nearer_at, walk_begun_at, walk_done, walk_more_at}
use Rattle.ic_grid.proofs.WalkLemmas.{in_block}
use Rattle.ic_grid.specs.Change.{changed}
use Rattle.ic_grid.proofs.changes.change_block.Goals as goal

pub loop-place-init : goal.loop-place-init
loop-place-init c =
    let first = c.first-at.ensures in
    record {
      row = (first_bounds c.args.block.now c.first-at.result first).0;
      column = (first_bounds c.args.block.now c.first-at.result first).1;
      done = walk_begun_at c.args.cells.now c.args.block.now (changed c.args.change) c.first-at.result first;
    }

pub next_place-at-requires-clause-row : goal.next_place-at-requires-clause-row
next_place-at-requires-clause-row c =
    let b = area_bounds c.args.block.now c.requires in
    let i = in_block c.args.block.now c.in-Some.place c.in-Some.ensures.some.within in
    omega (arith, ints, b.last_row, i.bottom)

pub next_place-at-requires-clause-column : goal.next_place-at-requires-clause-column
next_place-at-requires-clause-column c =
    let b = area_bounds c.args.block.now c.requires in
    let i = in_block c.args.block.now c.in-Some.place c.in-Some.ensures.some.within in
    omega (arith, ints, b.last_column, i.right)

pub loop-place-smaller : goal.loop-place-smaller
loop-place-smaller c =
    next_nearer_at c.args.block.now c.loop-place.at c.in-Some.place c.requires c.loop-place.invariant.column c.in-Some.ensures.some.behind c.in-Some.ensures.some.within c.next_place-at.result c.next_place-at.ensures

pub loop-place-preserved : goal.loop-place-preserved
loop-place-preserved c =
    let to = next_bounds c.args.block.now c.in-Some.place c.in-Some.ensures.some.within c.next_place-at.result c.next_place-at.ensures in
    record {
      row = to.0;
      column = to.1;
      done = walk_more_at c.args.cells.now c.args.block.now (changed c.args.change) c.loop-place.at c.loop-place.cells c.loop-place.invariant.done c.in-Some.place c.in-Some.ensures.some c.change_at.new.cells c.change_at.ensures c.next_place-at.result c.next_place-at.ensures;
    }

pub returns : goal.returns
returns c = walk_done c.args.cells.now c.args.block.now (changed c.args.change) c.loop-place.at c.loop-place.cells c.loop-place.invariant.done c.in_default.ensures.none
