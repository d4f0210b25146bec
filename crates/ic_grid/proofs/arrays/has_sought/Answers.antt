use Rattle.std.proofs.Common.{◌∙◌, sym, ap, arith}
use Rattle.std.proofs.lemmas.Int.{ints}
use Rattle.ic_grid.proofs.BlockLemmas.{area_bounds}
use Rattle.ic_grid.proofs.ChangeLemmas.{first_bounds, nearer_at, step_bounds}
use Rattle.ic_grid.proofs.SoughtLemmas.{found_one, none_begun, none_found, none_more}
use Rattle.ic_grid.proofs.WalkLemmas.{in_block}
use Rattle.ic_grid.specs.Arrays.{array_at, is_sought}
use Rattle.ic_grid.specs.Shape.{celled}
use Rattle.ic_grid.proofs.arrays.has_sought.Goals as goal

pub loop-place-init : goal.loop-place-init
loop-place-init c = record {
  row = (first_bounds c.args.block.now c.first-at.result c.first-at.ensures).0;
  column = (first_bounds c.args.block.now c.first-at.result c.first-at.ensures).1;
  none = none_begun c.args.cells.now c.args.block.now (λ p. is_sought c.args.sought c.args.block.now (array_at celled c.args.cells.now p)) c.first-at.result c.first-at.ensures;
}

pub returns-then-is_sought : goal.returns-then-is_sought
returns-then-is_sought c =
    found_one c.args.cells.now c.args.block.now (λ p. is_sought c.args.sought c.args.block.now (array_at celled c.args.cells.now p)) c.in-Some.place c.in-Some.ensures.some.there c.in-Some.ensures.some.within
    (ap (is_sought c.args.sought c.args.block.now) (sym c.array_at.ensures) ∙ sym c.if-is_sought.ensures)

pub right_of-at-requires : goal.right_of-at-requires
right_of-at-requires c =
    let b = area_bounds c.args.block.now c.requires in
    let i = in_block c.args.block.now c.in-Some.place c.in-Some.ensures.some.within in
    omega (arith, ints, b.last_column, i.right)

pub loop-place-smaller : goal.loop-place-smaller
loop-place-smaller c =
    nearer_at c.args.block.now c.loop-place.at c.in-Some.place c.requires c.loop-place.invariant.column c.in-Some.ensures.some.behind c.in-Some.ensures.some.within c.right_of-at.result c.right_of-at.ensures

pub loop-place-preserved : goal.loop-place-preserved
loop-place-preserved c =
    let to = step_bounds c.args.block.now c.in-Some.place c.in-Some.ensures.some.within c.right_of-at.result c.right_of-at.ensures in
    record {
      row = to.0;
      column = to.1;
      none =
          none_more c.args.cells.now c.args.block.now (λ p. is_sought c.args.sought c.args.block.now (array_at celled c.args.cells.now p)) c.loop-place.at c.loop-place.invariant.none c.in-Some.place c.in-Some.ensures.some
          (ap (is_sought c.args.sought c.args.block.now) (sym c.array_at.ensures) ∙ sym c.if-is_sought.ensures) c.right_of-at.result c.right_of-at.ensures;
    }

pub returns : goal.returns
returns c =
    none_found c.args.cells.now c.args.block.now (λ p. is_sought c.args.sought c.args.block.now (array_at celled c.args.cells.now p)) c.loop-place.at c.loop-place.invariant.none c.in_default.ensures.none
