use Rattle.std.proofs.Common.{arith}
use Rattle.std.proofs.lemmas.Int.{ints}
use Rattle.ic_grid.proofs.BlockLemmas.{area_bounds}
use Rattle.ic_grid.proofs.ChangeLemmas.{first_bounds, nearer_at, step_bounds}
use Rattle.ic_grid.proofs.PrepareLemmas.{progress_arrays, progress_begun, progress_done, progress_more}
use Rattle.ic_grid.proofs.WalkLemmas.{in_block}
use Rattle.ic_grid.proofs.prepare.prepare_block.Goals as goal

pub loop-place-init : goal.loop-place-init
loop-place-init c = record {
  row = (first_bounds c.args.block.now c.first-at.result c.first-at.ensures).0;
  column = (first_bounds c.args.block.now c.first-at.result c.first-at.ensures).1;
  done = progress_begun c.args.cells.now c.args.block.now c.first-at.result c.first-at.ensures;
}

pub prepare-requires : goal.prepare-requires
prepare-requires c = progress_arrays c.args.cells.now c.args.block.now c.loop-place.at c.loop-place.cells c.loop-place.invariant.done c.requires.inside c.requires.arrays

pub right_of-at-requires : goal.right_of-at-requires
right_of-at-requires c =
    let b = area_bounds c.args.block.now c.requires.area in
    let i = in_block c.args.block.now c.in-Some.place c.in-Some.ensures.some.within in
    omega (arith, ints, b.last_column, i.right)

pub loop-place-smaller : goal.loop-place-smaller
loop-place-smaller c =
    nearer_at c.args.block.now c.loop-place.at c.in-Some.place c.requires.area c.loop-place.invariant.column c.in-Some.ensures.some.behind c.in-Some.ensures.some.within c.right_of-at.result c.right_of-at.ensures

pub loop-place-preserved : goal.loop-place-preserved
loop-place-preserved c =
    let to = step_bounds c.args.block.now c.in-Some.place c.in-Some.ensures.some.within c.right_of-at.result c.right_of-at.ensures in
    record {
      row = to.0;
      column = to.1;
      done =
          progress_more c.args.cells.now c.args.block.now c.loop-place.at c.loop-place.cells c.loop-place.invariant.done c.in-Some.place c.in-Some.ensures.some c.prepare.new.cells c.prepare.ensures
          c.right_of-at.result c.right_of-at.ensures;
    }

pub returns : goal.returns
returns c =
    progress_done c.args.cells.now c.args.block.now c.loop-place.at c.loop-place.cells c.loop-place.invariant.done c.requires.arrays c.requires.area c.in_default.ensures.none
