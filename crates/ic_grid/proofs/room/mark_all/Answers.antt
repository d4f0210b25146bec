use Rattle.std.proofs.Common.{sym, arith}
use Rattle.std.proofs.lemmas.Int.{ints}
use Rattle.ic_grid.proofs.BlockLemmas.{area_bounds}
use Rattle.ic_grid.proofs.RoomLemmas.{marking_begun, marking_done, marking_more}
use Rattle.ic_grid.proofs.SpreadLemmas.{next_nearer}
use Rattle.ic_grid.proofs.WalkLemmas.{in_block}
use Rattle.ic_grid.proofs.room.mark_all.Goals as goal

pub places-init : goal.places-init
places-init c = marking_begun c.args.block.now c.args.cells.now c.requires c.first-at.result c.first-at.ensures

pub next_place-at-requires-clause-row : goal.next_place-at-requires-clause-row
next_place-at-requires-clause-row c =
    let b = area_bounds c.args.block.now c.requires in
    let i = in_block c.args.block.now c.places.at (sym c.places-test.ensures) in
    omega (arith, ints, b.last_row, i.bottom)

pub next_place-at-requires-clause-column : goal.next_place-at-requires-clause-column
next_place-at-requires-clause-column c =
    let b = area_bounds c.args.block.now c.requires in
    let i = in_block c.args.block.now c.places.at (sym c.places-test.ensures) in
    omega (arith, ints, b.last_column, i.right)

pub places-smaller : goal.places-smaller
places-smaller c = next_nearer c.args.block.now c.places.at c.requires (sym c.places-test.ensures) c.next_place-at.result c.next_place-at.ensures

pub places-preserved : goal.places-preserved
places-preserved c =
    marking_more c.args.block.now c.args.cells.now c.places.cells c.places.at c.places.invariant (sym c.places-test.ensures) c.mark.new.cells c.in_ok-mark.ensures.ok c.next_place-at.result c.next_place-at.ensures

pub returns-clause-full : goal.returns-clause-full
returns-clause-full c = marking_done c.args.block.now c.args.cells.now c.places.cells c.places.at c.places.invariant (sym c.places-test.ensures)
