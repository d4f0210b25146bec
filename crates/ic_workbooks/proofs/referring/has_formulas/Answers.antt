use Rattle.std.proofs.Common.{refl, ◌∙◌}
use Rattle.ic_workbooks.proofs.ReferLemmas.{entries_first, entries_last, entries_next}
use Rattle.ic_workbooks.proofs.referring.has_formulas.Goals as goal

pub loop-place-init : goal.loop-place-init
loop-place-init c =
    entries_first c.args.pool.now.formulas c.as_map.result.now c.args.cells.now c.into_iter-place-iterator.result c.iter-place-items.ensures.ordered c.as_map.ensures (c.into_iter-place-iterator.ensures.into_iter_gives ∙ c.iter-place-items.ensures.rest)

pub loop-place-preserved : goal.loop-place-preserved
loop-place-preserved c =
    entries_next c.args.pool.now.formulas c.args.cells.now c.loop-place.place-iterator c.loop-place.invariant c.next.new.self c.in-Some.place.now c.in-Some.cell.now c.in-Some.ensures.steps (c.has_formula_at.ensures.0 c.if-not-has_formula_at.false)

pub returns : goal.returns
returns c = (λ all. entries_last c.args.pool.now.formulas c.args.cells.now c.loop-place.place-iterator c.loop-place.invariant c.in-None.ensures.steps.0, λ h. refl)
