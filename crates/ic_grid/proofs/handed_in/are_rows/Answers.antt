use Rattle.std.proofs.Common.{◌≡◌, ◌∙◌, sym, ℤ, true}
use Rattle.std.proofs.lemmas.Bool.{both_ways}
use Rattle.ic_laws.specs.Position.{is_row}
use Rattle.ic_cells.specs.declared.layout.RowProps.{RowProps}
use Rattle.ic_grid.proofs.HandedInLemmas.{left_begun, left_done, left_failed, left_next}
use Rattle.ic_grid.proofs.handed_in.are_rows.Goals as goal

pub loop-row-init : goal.loop-row-init
loop-row-init c =
    left_begun (λ (e : ℤ × RowProps). is_row e.0 ≡ true) c.into_iter-row-iterator.result c.args.map.now.entries
    (c.into_iter-row-iterator.ensures.into_iter_gives ∙ c.iter-row-items.ensures.rest)

pub returns-then-not-is_row_of-clause-all : goal.returns-then-not-is_row_of-clause-all
returns-then-not-is_row_of-clause-all c =
    left_failed (λ (e : ℤ × RowProps). is_row e.0 ≡ true) (c.in-Some.row.now, c.in-Some.field-0-1.now) c.loop-row.row-iterator c.next.new.self c.args.map.now.entries c.in-Some.ensures.steps c.loop-row.invariant
    (λ so. both_ways c.is_row_of.result c.if-not-is_row_of.true (c.is_row_of.ensures ∙ so))

pub loop-row-preserved : goal.loop-row-preserved
loop-row-preserved c =
    left_next (λ (e : ℤ × RowProps). is_row e.0 ≡ true) (c.in-Some.row.now, c.in-Some.field-0-1.now) c.loop-row.row-iterator c.next.new.self c.args.map.now.entries c.in-Some.ensures.steps c.loop-row.invariant
    (sym c.is_row_of.ensures ∙ c.if-not-is_row_of.false)

pub returns-clause-all : goal.returns-clause-all
returns-clause-all c = left_done (λ (e : ℤ × RowProps). is_row e.0 ≡ true) c.loop-row.row-iterator c.args.map.now.entries c.in-None.ensures.steps.0 c.loop-row.invariant
