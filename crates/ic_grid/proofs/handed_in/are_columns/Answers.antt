use Rattle.std.proofs.Common.{◌≡◌, ◌∙◌, sym, ℤ, true}
use Rattle.std.proofs.lemmas.Bool.{both_ways}
use Rattle.ic_laws.specs.Position.{is_column}
use Rattle.ic_cells.specs.declared.layout.ColumnProps.{ColumnProps}
use Rattle.ic_grid.proofs.HandedInLemmas.{left_begun, left_done, left_failed, left_next}
use Rattle.ic_grid.proofs.handed_in.are_columns.Goals as goal

pub loop-column-init : goal.loop-column-init
loop-column-init c =
    left_begun (λ (e : ℤ × ColumnProps). is_column e.0 ≡ true) c.into_iter-column-iterator.result c.args.map.now.entries
    (c.into_iter-column-iterator.ensures.into_iter_gives ∙ c.iter-column-items.ensures.rest)

pub returns-then-not-is_column_of-clause-all : goal.returns-then-not-is_column_of-clause-all
returns-then-not-is_column_of-clause-all c =
    left_failed (λ (e : ℤ × ColumnProps). is_column e.0 ≡ true) (c.in-Some.column.now, c.in-Some.field-0-1.now) c.loop-column.column-iterator c.next.new.self c.args.map.now.entries c.in-Some.ensures.steps c.loop-column.invariant
    (λ so. both_ways c.is_column_of.result c.if-not-is_column_of.true (c.is_column_of.ensures ∙ so))

pub loop-column-preserved : goal.loop-column-preserved
loop-column-preserved c =
    left_next (λ (e : ℤ × ColumnProps). is_column e.0 ≡ true) (c.in-Some.column.now, c.in-Some.field-0-1.now) c.loop-column.column-iterator c.next.new.self c.args.map.now.entries c.in-Some.ensures.steps c.loop-column.invariant
    (sym c.is_column_of.ensures ∙ c.if-not-is_column_of.false)

pub returns-clause-all : goal.returns-clause-all
returns-clause-all c = left_done (λ (e : ℤ × ColumnProps). is_column e.0 ≡ true) c.loop-column.column-iterator c.args.map.now.entries c.in-None.ensures.steps.0 c.loop-column.invariant
