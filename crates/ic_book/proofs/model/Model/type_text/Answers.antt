use Rattle.std.proofs.Common.{◌∙◌, None, Some, chars, inl, refl, ap, subst}
use Rattle.ic_laws.specs.CoreBook.{CellPlace}
use Rattle.ic_machine.specs.Book as machine
use Rattle.ic_machine.specs.Book.{Stepped}
use Rattle.ic_machine.specs.subjects.Writing.{input_step}
use Rattle.ic_parts.specs.Book.{whole_of}
use Rattle.ic_parts.specs.Does.{DoesStep, WantedIn}
use Rattle.ic_parts.specs.Fields.{no_fields}
use Rattle.ic_parts.specs.Refused.{refusal_of}
use Rattle.ic_parts.specs.Values.{typed_step}
use Rattle.ic_parts.proofs.CellReads.{of_error}
use Rattle.ic_parts.proofs.RetypedLemmas.{retyped_so}
use Rattle.ic_changes.proofs.TypedSteps.{input_is, input_told, input_wants}
use Rattle.ic_book.proofs.ValueLemmas.{refusal_there}
use Rattle.ic_cells.proofs.MapLemmas.{stored_pair}
use Rattle.ic_book.proofs.model.Model.type_text.Goals as goal

pub returns-in_err-shown-clause-does : goal.returns-in_err-shown-clause-does
returns-in_err-shown-clause-does c =
    let now = c.args.self.now in
    let text = chars c.args.value.now in
    let t = c.in_err-shown.ensures.refused in
    of_error (λ r. DoesStep WantedIn (input_step c.args.sheet (c.args.row, c.args.column) text (whole_of now.book)) no_fields r now now) c.from_residual.result c.from_residual.ensures
    (λ f same. input_told now c.style_to_write.ensures.valid c.args.sheet c.args.row c.args.column text no_fields f (t.0, ap refusal_of same ∙ t.1, refusal_there now.book c.args.sheet c.args.row c.args.column _ (stored_pair c.args.row c.args.column c.ranges.row c.ranges.column) (Some t.0) t.2))

pub returns-in_err-typed-clause-does : goal.returns-in_err-typed-clause-does
returns-in_err-typed-clause-does c =
    let now = c.args.self.now in
    let text = chars c.args.value.now in
    of_error (λ r. DoesStep WantedIn (input_step c.args.sheet (c.args.row, c.args.column) text (whole_of now.book)) no_fields r now now) c.from_residual-in_err-typed.result c.from_residual-in_err-typed.ensures
    (λ f out. input_wants now c.style_to_write.ensures.valid c.args.sheet c.args.row c.args.column text no_fields (refusal_there now.book c.args.sheet c.args.row c.args.column _ (stored_pair c.args.row c.args.column c.ranges.row c.ranges.column) None c.in_ok-shown.ensures.refused) f out)

pub returns-in_err-shown-clause-looks_up : goal.returns-in_err-shown-clause-looks_up
returns-in_err-shown-clause-looks_up c = inl refl

pub returns-in_err-typed-clause-looks_up : goal.returns-in_err-typed-clause-looks_up
returns-in_err-typed-clause-looks_up c = inl refl

pub write_typed-requires-clause-shows : goal.write_typed-requires-clause-shows
write_typed-requires-clause-shows c = c.in_ok-shown.ensures.shows

pub write_typed-requires-clause-allowed : goal.write_typed-requires-clause-allowed
write_typed-requires-clause-allowed c = c.in_ok-shown.ensures.refused

pub returns-clause-does : goal.returns-clause-does
returns-clause-does c =
    let old = c.args.self.now in
    let text = chars c.args.value.now in
    subst (λ (made : Stepped machine.Book). DoesStep WantedIn made no_fields c.write_typed.result old c.write_typed.new.self)
    (input_is (whole_of old.book) c.args.sheet c.args.row c.args.column text c.in_ok-typed.typed c.in_ok-typed.ensures)
    (subst (λ (p : CellPlace). DoesStep WantedIn (typed_step (whole_of old.book) c.args.sheet p.0 p.1 c.in_ok-typed.typed) no_fields c.write_typed.result old c.write_typed.new.self) (stored_pair c.args.row c.args.column c.ranges.row c.ranges.column) c.write_typed.ensures.does)

pub returns-clause-looks_up : goal.returns-clause-looks_up
returns-clause-looks_up c = c.write_typed.ensures.looks_up

pub returns-in_err-shown-clause-retyped : goal.returns-in_err-shown-clause-retyped
returns-in_err-shown-clause-retyped c = retyped_so c.args.sheet c.args.row c.args.column (chars c.args.value.now) c.args.self.now c.args.self.now c.from_residual.result (returns-in_err-shown-clause-does c)

pub returns-in_err-typed-clause-retyped : goal.returns-in_err-typed-clause-retyped
returns-in_err-typed-clause-retyped c = retyped_so c.args.sheet c.args.row c.args.column (chars c.args.value.now) c.args.self.now c.args.self.now c.from_residual-in_err-typed.result (returns-in_err-typed-clause-does c)

pub returns-clause-retyped : goal.returns-clause-retyped
returns-clause-retyped c = retyped_so c.args.sheet c.args.row c.args.column (chars c.args.value.now) c.args.self.now c.write_typed.new.self c.write_typed.result (returns-clause-does c)
