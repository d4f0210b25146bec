use Rattle.std.proofs.Common.{◌∙◌}
use Rattle.ic_cells.specs.declared.cell.Cell.{Cell}
use Rattle.ic_grid.proofs.HandedInLemmas.{left_begun, left_done, left_failed, left_next, never}
use Rattle.ic_grid.specs.Block.{Place}
use Rattle.ic_grid.specs.HandedIn.{IsWhole}
use Rattle.ic_grid.specs.Shape.{celled, shape_of}
use Rattle.ic_grid.proofs.whole.are_whole.Goals as goal

pub loop-place-init : goal.loop-place-init
loop-place-init c =
    left_begun (λ (e : Place × Cell). IsWhole celled c.args.cells.now e.0 (shape_of e.1)) c.into_iter-place-iterator.result c.args.map.now.entries
    (c.into_iter-place-iterator.ensures.into_iter_gives ∙ c.iter-place-items.ensures.rest)

pub returns-then-not-is_whole-clause-all : goal.returns-then-not-is_whole-clause-all
returns-then-not-is_whole-clause-all c =
    left_failed (λ (e : Place × Cell). IsWhole celled c.args.cells.now e.0 (shape_of e.1)) (c.in-Some.place.now, c.in-Some.cell.now) c.loop-place.place-iterator c.next.new.self c.args.map.now.entries c.in-Some.ensures.steps c.loop-place.invariant
    (never c.is_whole.result c.is_whole.ensures c.if-not-is_whole.true)

pub loop-place-preserved : goal.loop-place-preserved
loop-place-preserved c =
    left_next (λ (e : Place × Cell). IsWhole celled c.args.cells.now e.0 (shape_of e.1)) (c.in-Some.place.now, c.in-Some.cell.now) c.loop-place.place-iterator c.next.new.self c.args.map.now.entries c.in-Some.ensures.steps c.loop-place.invariant
    (c.is_whole.ensures.0 c.if-not-is_whole.false)

pub returns-clause-all : goal.returns-clause-all
returns-clause-all c = left_done (λ (e : Place × Cell). IsWhole celled c.args.cells.now e.0 (shape_of e.1)) c.loop-place.place-iterator c.args.map.now.entries c.in-None.ensures.steps.0 c.loop-place.invariant
