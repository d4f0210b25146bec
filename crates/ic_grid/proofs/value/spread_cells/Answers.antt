use Rattle.std.proofs.Common.{sym, arith}
use Rattle.std.proofs.lemmas.Int.{ints}
use Rattle.ic_grid.proofs.BlockLemmas.{area_bounds}
use Rattle.ic_grid.proofs.SpreadLemmas.{next_nearer, spread_begun, spread_cell_is, spread_done, spread_more}
use Rattle.ic_grid.proofs.WalkLemmas.{in_block}
use Rattle.ic_grid.specs.Shape.{spread}
use Rattle.ic_grid.proofs.value.spread_cells.Goals as goal

pub places-init : goal.places-init
places-init c = record {
  anchor = c.first-anchor.ensures;
  done = spread_begun c.args.cells.now c.args.block.now (spread c.args.value.now) c.requires c.new-items.result.items c.new-items.ensures.items c.first-at.result c.first-at.ensures;
}

pub next_place-at-requires-clause-row : goal.next_place-at-requires-clause-row
next_place-at-requires-clause-row c =
    let b = area_bounds c.args.block.now c.requires in
    let i = in_block c.args.block.now c.places.at (sym c.places-test.ensures) in
    omega (arith, ints, b.last_row, i.bottom)

pub next_place-at-requires-clause-column : goal.next_place-at-requires-clause-column
next_place-at-requires-clause-column c =
    let b = area_bounds c.args.block.now c.requires in
    let i = in_block c.args.block.now c.places.at (sym c.places-test.ensures) in
    omega (arith, ints, b.last_column, i.right)

pub places-smaller : goal.places-smaller
places-smaller c = next_nearer c.args.block.now c.places.at c.requires (sym c.places-test.ensures) c.next_place-at.result c.next_place-at.ensures

pub places-preserved : goal.places-preserved
places-preserved c = record {
  anchor = c.places.invariant.anchor;
  done =
      spread_more c.args.cells.now c.args.block.now (spread c.args.value.now) c.places.items.items c.places.at c.places.invariant.done (sym c.places-test.ensures) c.push.new.self.items c.in_ok-cell.cell c.in_ok-push.ensures.items
      (spread_cell_is c.args.cells.now c.args.block.now (spread c.args.value.now) c.places.at c.in_ok-cell.cell c.style_or_zero.result c.first-anchor.result c.in_ok-cell.ensures c.style_or_zero.ensures c.places.invariant.anchor) c.next_place-at.result c.next_place-at.ensures;
}

pub returns : goal.returns
returns c = spread_done c.args.cells.now c.args.block.now (spread c.args.value.now) c.places.items.items c.places.at c.places.invariant.done (sym c.places-test.ensures)
