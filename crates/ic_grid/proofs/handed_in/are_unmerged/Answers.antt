use Rattle.std.proofs.Common.{◌≡◌, ◌∙◌, sym, true}
use Rattle.std.proofs.lemmas.Bool.{both_ways}
use Rattle.ic_cells.specs.declared.cell.Cell.{Cell}
use Rattle.ic_grid.proofs.HandedInLemmas.{left_begun, left_done, left_failed, left_next}
use Rattle.ic_grid.specs.Arrays.{array_from}
use Rattle.ic_grid.specs.Block.{Place}
use Rattle.ic_grid.specs.HandedIn.{is_unmerged}
use Rattle.ic_grid.specs.Shape.{shape_of}
use Rattle.ic_grid.proofs.handed_in.are_unmerged.Goals as goal

pub loop-place-init : goal.loop-place-init
loop-place-init c =
    left_begun (λ (e : Place × Cell). is_unmerged c.args.merges.now (array_from e.0 (shape_of e.1)) ≡ true) c.into_iter-place-iterator.result c.args.map.now.entries
    (c.into_iter-place-iterator.ensures.into_iter_gives ∙ c.iter-place-items.ensures.rest)

pub returns-then-not-is_unmerged-clause-all : goal.returns-then-not-is_unmerged-clause-all
returns-then-not-is_unmerged-clause-all c =
    left_failed (λ (e : Place × Cell). is_unmerged c.args.merges.now (array_from e.0 (shape_of e.1)) ≡ true) (c.in-Some.place.now, c.in-Some.cell.now) c.loop-place.place-iterator c.next.new.self c.args.map.now.entries c.in-Some.ensures.steps c.loop-place.invariant
    (λ so. both_ways c.is_unmerged.result c.if-not-is_unmerged.true (c.is_unmerged.ensures ∙ so))

pub loop-place-preserved : goal.loop-place-preserved
loop-place-preserved c =
    left_next (λ (e : Place × Cell). is_unmerged c.args.merges.now (array_from e.0 (shape_of e.1)) ≡ true) (c.in-Some.place.now, c.in-Some.cell.now) c.loop-place.place-iterator c.next.new.self c.args.map.now.entries c.in-Some.ensures.steps c.loop-place.invariant
    (sym c.is_unmerged.ensures ∙ c.if-not-is_unmerged.false)

pub returns-clause-all : goal.returns-clause-all
returns-clause-all c = left_done (λ (e : Place × Cell). is_unmerged c.args.merges.now (array_from e.0 (shape_of e.1)) ≡ true) c.loop-place.place-iterator c.args.map.now.entries c.in-None.ensures.steps.0 c.loop-place.invariant
