use mir.Val.{SFits}
use Rattle.std.proofs.Common.{rules, w32, Ok, false, refl, ap, sym, ◌∙◌}
use Rattle.ic_grid.specs.Calls.{can_clear}
use Rattle.ic_grid.specs.Shape.{celled}
use Rattle.ic_parts.specs.Does.{DoesGrid}
use Rattle.ic_parts.specs.Fields.{no_fields}
use Rattle.ic_machine.specs.subjects.Arrays.{clear_step}
use Rattle.ic_parts.proofs.ArrayLemmas.{cells_cleared, clear_done, clear_held, clear_outside, clear_refused}
use Rattle.ic_sheets.proofs.CellLemmas.{stored_block}
use Rattle.ic_parts.proofs.CellReads.{of_error}
use Rattle.ic_parts.proofs.GridPartLemmas.{same_held}
use Rattle.ic_parts.proofs.blocks.clear.Goals as goal

pub returns-then-not-is_area-clause-does : goal.returns-then-not-is_area-clause-does
returns-then-not-is_area-clause-does c = clear_outside c.args.grid.now c.args.all c.args.block (sym c.is_area.ensures ∙ c.if-not-is_area.true)

pub returns-then-not-is_area-clause-held : goal.returns-then-not-is_area-clause-held
returns-then-not-is_area-clause-held c = same_held c.args.grid.now c.args.grid.now refl

pub returns-in_err-clear-clause-does : goal.returns-in_err-clear-clause-does
returns-in_err-clear-clause-does c =
    let row : SFits w32 c.args.block.row = search rules in
    let column : SFits w32 c.args.block.column = search rules in
    let width : SFits w32 c.args.block.width = search rules in
    let height : SFits w32 c.args.block.height = search rules in
    let same = stored_block c.args.block.row c.args.block.column c.args.block.width c.args.block.height row column width height in
    of_error (λ r. DoesGrid false (clear_step c.args.all c.args.block) no_fields r c.args.grid.now c.clear.new.self) c.from_residual.result c.from_residual.ensures
    (λ f told. clear_refused c.args.grid.now c.args.all c.args.block (sym c.is_area.ensures ∙ c.if-not-is_area.false) c.in_err-clear.field-0.0 (ap (can_clear celled c.args.grid.now.cells) (sym same) ∙ sym c.in_err-clear.ensures.answer) c.clear.new.self c.in_err-clear.ensures.kept f told)

pub returns-in_err-clear-clause-held : goal.returns-in_err-clear-clause-held
returns-in_err-clear-clause-held c = same_held c.args.grid.now c.clear.new.self c.in_err-clear.ensures.kept

pub returns-clause-does : goal.returns-clause-does
returns-clause-does c =
    let row : SFits w32 c.args.block.row = search rules in
    let column : SFits w32 c.args.block.column = search rules in
    let width : SFits w32 c.args.block.width = search rules in
    let height : SFits w32 c.args.block.height = search rules in
    let same = stored_block c.args.block.row c.args.block.column c.args.block.width c.args.block.height row column width height in
    clear_done c.args.grid.now c.args.all c.args.block (sym c.is_area.ensures ∙ c.if-not-is_area.false) (ap (can_clear celled c.args.grid.now.cells) (sym same) ∙ sym c.in_ok-clear.ensures.answer) c.clear.new.self
    (c.in_ok-clear.ensures.ok ∙ ap (λ b. cells_cleared c.args.grid.now c.args.all b) same)

pub returns-clause-held : goal.returns-clause-held
returns-clause-held c =
    let row : SFits w32 c.args.block.row = search rules in
    let column : SFits w32 c.args.block.column = search rules in
    let width : SFits w32 c.args.block.width = search rules in
    let height : SFits w32 c.args.block.height = search rules in
    let same = stored_block c.args.block.row c.args.block.column c.args.block.width c.args.block.height row column width height in
    clear_held c.args.grid.now c.args.all c.args.block c.clear.new.self (Ok tt) (returns-clause-does c)
    (c.in_ok-clear.ensures.ok ∙ ap (λ b. cells_cleared c.args.grid.now c.args.all b) same)
