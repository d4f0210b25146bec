use mir.Val.{SFits}
use Rattle.std.proofs.Common.{rules, w32, Ok, true, ap, length, subst, sym, ◌∙◌}
use Rattle.ic_grid.specs.Calls.{IsRefusal, can_spill}
use Rattle.ic_grid.specs.Shape.{celled}
use Rattle.ic_grid.specs.declared.block.Block.{Block}
use Rattle.ic_machine.specs.subjects.Arrays.{put_spill_step}
use Rattle.ic_parts.specs.Does.{DoesGrid}
use Rattle.ic_parts.specs.Fields.{no_fields}
use Rattle.ic_parts.proofs.ArrayLemmas.{cells_spilled, spill_done, spill_held, spill_refused}
use Rattle.ic_sheets.proofs.CellLemmas.{stored_block}
use Rattle.ic_parts.proofs.CellReads.{of_error}
use Rattle.ic_parts.proofs.GridPartLemmas.{same_held}
use Rattle.ic_parts.proofs.blocks.put_values.Goals as goal

pub returns-in_err-spill-clause-does : goal.returns-in_err-spill-clause-does
returns-in_err-spill-clause-does c =
    let row : SFits w32 c.args.block.row = search rules in
    let column : SFits w32 c.args.block.column = search rules in
    let width : SFits w32 c.args.block.width = search rules in
    let height : SFits w32 c.args.block.height = search rules in
    let same = stored_block c.args.block.row c.args.block.column c.args.block.width c.args.block.height row column width height in
    let grid = c.args.grid.now in
    let values = c.args.values.items in
    of_error (λ r. DoesGrid true (put_spill_step c.args.block values) no_fields r grid c.spill.new.self) c.from_residual.result c.from_residual.ensures
    (λ f told. spill_refused grid c.args.block values c.in_err-spill.field-0.0
    (subst (λ (b : Block). IsRefusal (can_spill celled grid.merged_cells grid.cells b (length values)) c.in_err-spill.field-0.0) same c.in_err-spill.ensures.err) c.spill.new.self c.in_err-spill.ensures.kept f told)

pub returns-in_err-spill-clause-held : goal.returns-in_err-spill-clause-held
returns-in_err-spill-clause-held c = same_held c.args.grid.now c.spill.new.self c.in_err-spill.ensures.kept

pub returns-clause-does : goal.returns-clause-does
returns-clause-does c =
    let row : SFits w32 c.args.block.row = search rules in
    let column : SFits w32 c.args.block.column = search rules in
    let width : SFits w32 c.args.block.width = search rules in
    let height : SFits w32 c.args.block.height = search rules in
    let same = stored_block c.args.block.row c.args.block.column c.args.block.width c.args.block.height row column width height in
    let grid = c.args.grid.now in
    let values = c.args.values.items in
    spill_done grid c.args.block values (ap (λ b. can_spill celled grid.merged_cells grid.cells b (length values)) (sym same) ∙ c.in_ok-spill.ensures.allowed) c.spill.new.self
    (c.in_ok-spill.ensures.ok ∙ ap (λ b. cells_spilled grid b values) same)

pub returns-clause-held : goal.returns-clause-held
returns-clause-held c =
    let row : SFits w32 c.args.block.row = search rules in
    let column : SFits w32 c.args.block.column = search rules in
    let width : SFits w32 c.args.block.width = search rules in
    let height : SFits w32 c.args.block.height = search rules in
    let same = stored_block c.args.block.row c.args.block.column c.args.block.width c.args.block.height row column width height in
    spill_held c.args.grid.now c.args.block c.args.values.items c.spill.new.self (Ok tt) (returns-clause-does c)
    (c.in_ok-spill.ensures.ok ∙ ap (λ b. cells_spilled c.args.grid.now b c.args.values.items) same)
