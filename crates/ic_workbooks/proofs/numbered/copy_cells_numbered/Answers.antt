use Rattle.std.proofs.Common.{◌∙◌, refl}
use Rattle.std.specs.FinMap as finite
use Rattle.ic_laws.proofs.core.CellWritten.{place_cmp_total, place_tied}
use Rattle.ic_parts.proofs.CopyLemmas.{inserted_all}
use Rattle.ic_workbooks.proofs.NumberedLemmas.{copied_end, copied_next, copied_start}
use Rattle.ic_workbooks.proofs.numbered.copy_cells_numbered.Goals as goal

pub loop-place-init : goal.loop-place-init
loop-place-init c =
    copied_start c.args.numbers.now c.args.cells.now c.new-out.result c.into_iter-place-iterator.result c.new-out.ensures
    (inserted_all place_cmp_total place_tied c.as_map.result.now c.args.cells.now finite.empty c.into_iter-place-iterator.result c.iter-place-items.ensures.ordered c.as_map.ensures refl
    (c.into_iter-place-iterator.ensures.into_iter_gives ∙ c.iter-place-items.ensures.rest))

pub loop-place-preserved : goal.loop-place-preserved
loop-place-preserved c =
    copied_next c.args.numbers.now c.args.cells.now c.loop-place.out c.put_numbered.new.cells c.loop-place.place-iterator c.next.new.self c.in-Some.place.now c.in-Some.cell.now c.loop-place.invariant c.in-Some.ensures.steps c.in_ok-put_numbered.ensures

pub returns : goal.returns
returns c = copied_end c.args.numbers.now c.args.cells.now c.loop-place.out c.loop-place.place-iterator c.loop-place.invariant c.in-None.ensures.steps.0
