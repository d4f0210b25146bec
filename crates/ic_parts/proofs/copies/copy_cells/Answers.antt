use Rattle.std.proofs.Common.{◌∙◌}
use Rattle.ic_laws.proofs.core.CellWritten.{place_cmp_total, place_tied}
use Rattle.ic_parts.proofs.CopyLemmas.{inserted_all, inserted_last, inserted_next}
use Rattle.ic_parts.proofs.copies.copy_cells.Goals as goal

pub loop-place-init : goal.loop-place-init
loop-place-init c =
    inserted_all place_cmp_total place_tied c.as_map.result.now c.args.cells.now c.new-out.result c.into_iter-place-iterator.result c.iter-place-items.ensures.ordered c.as_map.ensures c.new-out.ensures
    (c.into_iter-place-iterator.ensures.into_iter_gives ∙ c.iter-place-items.ensures.rest)

pub loop-place-preserved : goal.loop-place-preserved
loop-place-preserved c =
    inserted_next c.args.cells.now c.loop-place.out c.put_copy.new.cells c.loop-place.place-iterator c.next.new.self c.in-Some.place.now c.in-Some.cell.now c.loop-place.invariant c.in-Some.ensures.steps c.in_ok-put_copy.ensures

pub returns : goal.returns
returns c = inserted_last c.args.cells.now c.loop-place.out c.loop-place.place-iterator c.loop-place.invariant c.in-None.ensures.steps.0
