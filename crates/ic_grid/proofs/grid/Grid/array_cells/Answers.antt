use Rattle.std.proofs.Common.{◌∙◌, ap, ap₂, refl, length, arith, ℤ, [], ◌∷◌, ◌++◌, List}
use Rattle.std.proofs.lemmas.Int.{ints}
use Rattle.std.specs.Vec.Iter.{into_iter_items}
use Rattle.ic_cells.specs.declared.cell.Cell.{Cell}
use Rattle.ic_cells.specs.declared.cell.Cell.TheVariants as cells
use Rattle.ic_cells.specs.declared.value.FormulaValue.{FormulaValue}
use Rattle.ic_grid.proofs.RowLemmas.{at_bounds}
use Rattle.ic_grid.proofs.SpillCells.{filling_begun, filling_more, first_row, first_column, more_at}
use Rattle.ic_grid.proofs.grid.Grid.array_cells.Goals as goal

pub next_place-at-requires-clause-row : goal.next_place-at-requires-clause-row
next_place-at-requires-clause-row c = first_row c.args.block.now c.requires.area c.first-anchor.result c.first-anchor.ensures

pub next_place-at-requires-clause-column : goal.next_place-at-requires-clause-column
next_place-at-requires-clause-column c = first_column c.args.block.now c.requires.area c.first-anchor.result c.first-anchor.ensures

pub loop-v-init : goal.loop-v-init
loop-v-init c =
    filling_begun c.args.self.now.rows c.args.self.now.columns c.args.self.now.cells c.args.block.now c.requires.area c.args.f c.args.s c.args.kind c.args.values.items (into_iter_items c.into_iter-rest.result) (into_iter_items c.next.new.self) c.in-Some.value c.requires.count
    c.into_iter-rest.ensures.rest c.in-Some.ensures.items c.push.new.self.items (cells.ArrayFormula c.args.kind c.args.f c.args.s c.area.result c.in_ok-kept.kept)
    (c.in_ok-push.ensures.items ∙ ap (λ (ys : List Cell). ys ++ cells.ArrayFormula c.args.kind c.args.f c.args.s c.area.result c.in_ok-kept.kept ∷ []) c.new-items.ensures.items)
    (ap₂ (λ (r : ℤ × ℤ) (v : FormulaValue). cells.ArrayFormula c.args.kind c.args.f c.args.s r v) c.area.ensures c.in_ok-kept.ensures) c.first-anchor.result c.next_place-at.result c.first-anchor.ensures c.next_place-at.ensures

pub next_place-at-requires-in-Some-next-clause-row : goal.next_place-at-requires-in-Some-next-clause-row
next_place-at-requires-in-Some-next-clause-row c =
    let s = at_bounds c.args.block.now c.loop-v.at (length (into_iter_items c.next-in-loop-v.new.self)) c.requires.area
    (more_at c.args.block.now c.loop-v.at (into_iter_items c.loop-v.rest) (into_iter_items c.next-in-loop-v.new.self) c.in-Some-next.v c.loop-v.invariant.left c.in-Some-next.ensures.items) in
    omega (arith, ints, s.0)

pub next_place-at-requires-in-Some-next-clause-column : goal.next_place-at-requires-in-Some-next-clause-column
next_place-at-requires-in-Some-next-clause-column c =
    let s = at_bounds c.args.block.now c.loop-v.at (length (into_iter_items c.next-in-loop-v.new.self)) c.requires.area
    (more_at c.args.block.now c.loop-v.at (into_iter_items c.loop-v.rest) (into_iter_items c.next-in-loop-v.new.self) c.in-Some-next.v c.loop-v.invariant.left c.in-Some-next.ensures.items) in
    omega (arith, ints, s.1)

pub loop-v-preserved : goal.loop-v-preserved
loop-v-preserved c =
    filling_more c.args.self.now.rows c.args.self.now.columns c.args.self.now.cells c.args.block.now _ c.loop-v.items.items c.first-anchor.result c.loop-v.at (into_iter_items c.loop-v.rest) c.loop-v.invariant c.in-Some-next.v (into_iter_items c.next-in-loop-v.new.self)
    c.in-Some-next.ensures.items c.push-in-Some-next.new.self.items (cells.SpillCell c.style_of_place-s.result c.first-anchor.result c.in-Some-next.v) c.in_ok-push-2.ensures.items c.style_of_place-s.result c.style_of_place-s.ensures (refl) c.next_place-at-in-Some-next.result
    c.next_place-at-in-Some-next.ensures
