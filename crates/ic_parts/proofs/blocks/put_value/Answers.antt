use Rattle.std.proofs.Common.{Ok, true, ap, subst, sym, ◌∙◌}
use Rattle.ic_grid.specs.Block.{Place}
use Rattle.ic_grid.specs.Calls.{IsRefusal, can_write_value}
use Rattle.ic_grid.specs.Shape.{celled}
use Rattle.ic_machine.specs.subjects.Arrays.{put_value_step}
use Rattle.ic_parts.specs.Does.{DoesGrid}
use Rattle.ic_parts.specs.Fields.{no_fields}
use Rattle.ic_parts.proofs.ArrayLemmas.{cells_valued, value_done, value_held, value_refused}
use Rattle.ic_parts.proofs.CellReads.{of_error}
use Rattle.ic_parts.proofs.GridPartLemmas.{same_held}
use Rattle.ic_cells.proofs.MapLemmas.{stored_pair}
use Rattle.ic_parts.proofs.blocks.put_value.Goals as goal

pub returns-in_err-write_value-clause-does : goal.returns-in_err-write_value-clause-does
returns-in_err-write_value-clause-does c =
    let same = stored_pair c.args.row c.args.column c.ranges.row c.ranges.column in
    of_error (λ r. DoesGrid true (put_value_step (c.args.row, c.args.column) c.args.value) no_fields r c.args.grid.now c.write_value.new.self) c.from_residual.result c.from_residual.ensures
    (λ f told. value_refused c.args.grid.now (c.args.row, c.args.column) c.args.value c.in_err-write_value.field-0.0
    (subst (λ (p : Place). IsRefusal (can_write_value celled c.args.grid.now.cells p) c.in_err-write_value.field-0.0) same c.in_err-write_value.ensures.err) c.write_value.new.self c.in_err-write_value.ensures.kept f told)

pub returns-in_err-write_value-clause-held : goal.returns-in_err-write_value-clause-held
returns-in_err-write_value-clause-held c = same_held c.args.grid.now c.write_value.new.self c.in_err-write_value.ensures.kept

pub returns-clause-does : goal.returns-clause-does
returns-clause-does c =
    let same = stored_pair c.args.row c.args.column c.ranges.row c.ranges.column in
    value_done c.args.grid.now (c.args.row, c.args.column) c.args.value (ap (can_write_value celled c.args.grid.now.cells) (sym same) ∙ c.in_ok-write_value.ensures.allowed) c.write_value.new.self
    (c.in_ok-write_value.ensures.ok ∙ ap (λ p. cells_valued c.args.grid.now p c.args.value) same)

pub returns-clause-held : goal.returns-clause-held
returns-clause-held c =
    let same = stored_pair c.args.row c.args.column c.ranges.row c.ranges.column in
    value_held c.args.grid.now (c.args.row, c.args.column) c.args.value c.write_value.new.self (Ok tt) (returns-clause-does c)
    (c.in_ok-write_value.ensures.ok ∙ ap (λ p. cells_valued c.args.grid.now p c.args.value) same)
