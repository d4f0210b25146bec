use Rattle.std.proofs.Common.{None, Some, chars, option_map, sym, ap, subst, ◌∙◌}
use Rattle.ic_laws.specs.CoreBook.{CellPlace}
use Rattle.ic_machine.specs.Book as machine
use Rattle.ic_machine.specs.Book.{Stepped}
use Rattle.ic_machine.specs.InForce.{formula_typed}
use Rattle.ic_machine.specs.subjects.Writing.{formula_step}
use Rattle.ic_parts.specs.Book.{IsValidBook, ModelState, whole_of}
use Rattle.ic_parts.specs.Does.{DoesStep, WantedIn}
use Rattle.ic_parts.specs.Fields.{no_fields}
use Rattle.ic_parts.specs.Refused.{refusal_of}
use Rattle.ic_parts.specs.Written.{put_formula_step}
use Rattle.ic_parts.proofs.CellReads.{of_error}
use Rattle.ic_book.proofs.InForceLemmas.{formula_is}
use Rattle.ic_changes.proofs.TypedSteps.{formula_told, no_formula_told, some_formula}
use Rattle.ic_book.proofs.ValueLemmas.{refusal_there}
use Rattle.ic_parts.proofs.WholeWritten.{writes}
use Rattle.ic_cells.proofs.MapLemmas.{stored_pair}
use Rattle.ic_book.proofs.model.Model.type_formula.Goals as goal

pub returns-in_err-shown-clause-does : goal.returns-in_err-shown-clause-does
returns-in_err-shown-clause-does c =
    let now = c.args.self.now in
    let text = chars c.args.formula.now in
    let t = c.in_err-shown.ensures.refused in
    of_error (λ r. DoesStep WantedIn (formula_step c.args.sheet (c.args.row, c.args.column) text (whole_of now.book)) no_fields r now now) c.from_residual.result c.from_residual.ensures
    (λ f same. formula_told now (subst (λ (m : ModelState). IsValidBook m.book) c.self.view_is c.self.invariant.book) c.args.sheet (c.args.row, c.args.column) text no_fields f (t.0, ap refusal_of same ∙ t.1, refusal_there now.book c.args.sheet c.args.row c.args.column _ (stored_pair c.args.row c.args.column c.ranges.row c.ranges.column) (Some t.0) t.2))

pub returns-in_default-clause-does : goal.returns-in_default-clause-does
returns-in_default-clause-does c =
    let text = chars c.args.formula.now in
    let typed =
    ap (λ (m : ModelState). formula_typed (whole_of m.book) text) (sym c.self.view_is) ∙ formula_is c.self.inside c.self.invariant.book c.locale.result.now c.locale.ensures.found text
    ∙ sym c.formula_without_prefix.ensures.exact
    ∙ ap (option_map (λ f. chars f.now)) c.in_default.is in
    no_formula_told c.args.self.now (subst (λ (m : ModelState). IsValidBook m.book) c.self.view_is c.self.invariant.book) c.args.sheet (c.args.row, c.args.column) text no_fields typed (refusal_there c.args.self.now.book c.args.sheet c.args.row c.args.column _ (stored_pair c.args.row c.args.column c.ranges.row c.ranges.column) None c.in_ok-shown.ensures.refused)

pub write_formula-requires-clause-shows : goal.write_formula-requires-clause-shows
write_formula-requires-clause-shows c = c.in_ok-shown.ensures.shows

pub write_formula-requires-clause-allowed : goal.write_formula-requires-clause-allowed
write_formula-requires-clause-allowed c = c.in_ok-shown.ensures.refused

pub returns-clause-does : goal.returns-clause-does
returns-clause-does c =
    let old = c.args.self.now in
    let new = c.write_formula.new.self in
    let sheet = c.args.sheet in
    let place : CellPlace = (c.args.row, c.args.column) in
    let text = chars c.args.formula.now in
    let body = chars c.in-Some.body.now in
    let typed =
    ap (λ (m : ModelState). formula_typed (whole_of m.book) text) (sym c.self.view_is) ∙ formula_is c.self.inside c.self.invariant.book c.locale.result.now c.locale.ensures.found text
    ∙ sym c.formula_without_prefix.ensures.exact
    ∙ ap (option_map (λ f. chars f.now)) c.in-Some.is in
    let did =
    subst (λ (p : CellPlace). DoesStep WantedIn (put_formula_step (whole_of old.book) sheet p body) no_fields c.write_formula.result old new) (stored_pair c.args.row c.args.column c.ranges.row c.ranges.column)
    (writes c.write_formula.result old new c.write_formula.ensures.valid sheet _ body c.in_ok-shown.ensures.refused c.write_formula.ensures.written c.write_formula.ensures.lacks c.write_formula.ensures.err) in
    subst (λ (made : Stepped machine.Book). DoesStep WantedIn made no_fields c.write_formula.result old new) (some_formula old.book sheet place text body typed) did
