use Rattle.std.proofs.Common.{◌∙◌, arith, ap, length}
use Rattle.std.proofs.lemmas.Int.{ints}
use Rattle.std.specs.Vec.Iter.{into_iter_items}
use Rattle.ic_grid.proofs.RowLemmas.{at_bounds, at_in, begun_at, full_more, item_at, next_at, placed_begun, placed_more}
use Rattle.ic_grid.proofs.changes.put_all.Goals as goal

pub loop-item-init : goal.loop-item-init
loop-item-init c = record {
  at = begun_at c.args.block.now c.first-at.result c.first-at.ensures c.requires.area (length (into_iter_items c.into_iter-rest.result)) (ap length c.into_iter-rest.ensures.rest ∙ c.requires.count);
  full = c.requires.full;
  left = placed_begun c.args.block.now c.first-at.result (into_iter_items c.into_iter-rest.result) c.args.items.items c.args.cells.now c.first-at.ensures c.into_iter-rest.ensures.rest;
}

pub replace-requires : goal.replace-requires
replace-requires c =
    c.loop-item.invariant.full c.loop-item.at
    (at_in c.args.block.now c.loop-item.at (length (into_iter_items c.next.new.self))
    (item_at c.args.block.now c.loop-item.at (into_iter_items c.loop-item.rest) (into_iter_items c.next.new.self) c.in-Some.item c.loop-item.invariant.at c.in-Some.ensures.items))

pub next_place-at-requires-clause-row : goal.next_place-at-requires-clause-row
next_place-at-requires-clause-row c =
    let s = at_bounds c.args.block.now c.loop-item.at (length (into_iter_items c.next.new.self)) c.requires.area
    (item_at c.args.block.now c.loop-item.at (into_iter_items c.loop-item.rest) (into_iter_items c.next.new.self) c.in-Some.item c.loop-item.invariant.at c.in-Some.ensures.items) in
    omega (arith, ints, s.0)

pub next_place-at-requires-clause-column : goal.next_place-at-requires-clause-column
next_place-at-requires-clause-column c =
    let s = at_bounds c.args.block.now c.loop-item.at (length (into_iter_items c.next.new.self)) c.requires.area
    (item_at c.args.block.now c.loop-item.at (into_iter_items c.loop-item.rest) (into_iter_items c.next.new.self) c.in-Some.item c.loop-item.invariant.at c.in-Some.ensures.items) in
    omega (arith, ints, s.1)

pub loop-item-preserved : goal.loop-item-preserved
loop-item-preserved c = record {
  at =
      next_at c.args.block.now c.loop-item.at (into_iter_items c.loop-item.rest) (into_iter_items c.next.new.self) c.in-Some.item c.loop-item.invariant.at c.in-Some.ensures.items
      c.next_place-at.result c.next_place-at.ensures;
  full = full_more c.args.block.now c.loop-item.cells c.replace.new.cells c.loop-item.at c.in-Some.item c.replace.ensures c.loop-item.invariant.full;
  left =
      placed_more c.args.block.now c.loop-item.at (into_iter_items c.loop-item.rest) (into_iter_items c.next.new.self) c.in-Some.item c.loop-item.cells c.replace.new.cells _ c.loop-item.invariant.left
      c.in-Some.ensures.items c.replace.ensures c.next_place-at.result c.next_place-at.ensures;
}
