use Rattle.std.proofs.Common.{◌≡◌, None, Some, IfSome, OnOk, chars, option_map, subst, sym, ap, ◌∙◌}
use Rattle.std.specs.List.{slice_get}
use Rattle.ic_grid.specs.Block.{block_at}
use Rattle.ic_grid.specs.declared.block.Block.{Block}
use Rattle.ic_machine.specs.subjects.Arrays.{array_step}
use Rattle.ic_sheets.proofs.CellLemmas.{stored_block}
use Rattle.ic_parts.specs.Arrays.{WritesArray, after_equals, array_refusal}
use Rattle.ic_parts.specs.Book.{whole_of}
use Rattle.ic_parts.specs.Does.{DoesStep, WantedIn}
use Rattle.ic_parts.specs.Fields.{no_fields}
use Rattle.ic_parts.specs.Refused.{refusal_of}
use Rattle.ic_parts.proofs.ArrayWritten.{array_does, array_no_formula, array_refused}
use Rattle.ic_parts.proofs.CellReads.{of_error}
use Rattle.ic_book.proofs.model.Model.set_user_array_formula.Goals as goal

pub returns-in_err-may_write_array-clause-does : goal.returns-in_err-may_write_array-clause-does
returns-in_err-may_write_array-clause-does c =
    let now = c.args.self.now in
    let b = block_at (c.args.row, c.args.column) c.args.width c.args.height in
    let same = stored_block c.args.row c.args.column c.args.width c.args.height c.ranges.row c.ranges.column c.ranges.width c.ranges.height in
    let text = chars c.args.value.now in
    let t = c.in_err-may_write_array.ensures.refused in
    of_error (λ r. DoesStep WantedIn (array_step c.args.sheet b text (whole_of now.book)) no_fields r now now) c.from_residual.result c.from_residual.ensures
    (λ f is. array_refused now c.in_err-may_write_array.ensures.valid c.args.sheet b text f t.0 (ap refusal_of is ∙ t.1) (ap (array_refusal now.book c.args.sheet) (sym same) ∙ t.2))

pub returns-in_default-clause-does : goal.returns-in_default-clause-does
returns-in_default-clause-does c =
    let now = c.args.self.now in
    let same = stored_block c.args.row c.args.column c.args.width c.args.height c.ranges.row c.ranges.column c.ranges.width c.ranges.height in
    let text = chars c.args.value.now in
    let typed : after_equals text ≡ None = sym c.after_equals.ensures ∙ ap (option_map (λ f. chars f.now)) c.in_default.is in
    array_no_formula now c.in_ok-may_write_array.ensures.valid c.args.sheet (block_at (c.args.row, c.args.column) c.args.width c.args.height) text
    (ap (array_refusal now.book c.args.sheet) (sym same) ∙ c.in_ok-may_write_array.ensures.refused) typed

pub write_array-requires-clause-typed : goal.write_array-requires-clause-typed
write_array-requires-clause-typed c = (chars c.args.value.now, sym c.after_equals.ensures ∙ ap (option_map (λ f. chars f.now)) c.in-Some.is)

pub returns-clause-does : goal.returns-clause-does
returns-clause-does c =
    let now = c.args.self.now in
    let new = c.write_array.new.self in
    let sheet = c.args.sheet in
    let b = block_at (c.args.row, c.args.column) c.args.width c.args.height in
    let same = stored_block c.args.row c.args.column c.args.width c.args.height c.ranges.row c.ranges.column c.ranges.width c.ranges.height in
    let text = chars c.args.value.now in
    let body = chars c.in-Some.body.now in
    let typed : after_equals text ≡ Some body = sym c.after_equals.ensures ∙ ap (option_map (λ f. chars f.now)) c.in-Some.is in
    array_does now c.in_ok-may_write_array.ensures.valid sheet b text (ap (array_refusal now.book sheet) (sym same) ∙ c.in_ok-may_write_array.ensures.refused) new body typed c.write_array.result
    (subst (λ (b : Block). OnOk c.write_array.result (IfSome (slice_get now.book.sheets sheet) (λ s. WritesArray sheet s b body now.book new.book))) same c.write_array.ensures.written)
    c.write_array.ensures.memory c.write_array.ensures.err
