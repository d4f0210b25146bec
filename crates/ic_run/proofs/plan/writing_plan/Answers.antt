use mir.Val.{SFits}
use Rattle.std.proofs.Common.{rules, w32, ℕ, List, chars, refl, subst, sym}
use Rattle.ic_laws.specs.CoreBook.{CellPlace}
use Rattle.ic_machine.specs.Command.{OnWriting}
use Rattle.ic_machine.specs.subjects.Writing.{SetUserInput, UpdateCellWithFormula}
use Rattle.ic_words.specs.subjects.Writing.{writing_meant}
use Rattle.ic_parts.specs.Translated.{IsToldOf}
use Rattle.ic_parts.specs.Whole.{whole_of}
use Rattle.ic_run.specs.Translate.{IsPlan}
use Rattle.ic_run.proofs.TurnLemmas.{told_where}
use Rattle.ic_cells.proofs.MapLemmas.{stored_pair}
use Rattle.ic_run.proofs.plan.writing_plan.Goals as goal

pub returns-in_ok-input_to_write-in-SetUserInput : goal.returns-in_ok-input_to_write-in-SetUserInput
returns-in_ok-input_to_write-in-SetUserInput c = λ target.
    let a = c.in-SetUserInput in
    let whole = whole_of c.args.model.now.book in
    let own = c.in_ok-input_to_write-in-SetUserInput.field-0 in
    let row : SFits w32 a.row = search rules in
    let column : SFits w32 a.column = search rules in
    subst (λ k. IsPlan target whole (OnWriting (writing_meant k)) c.written.result) (sym a.is)
    (c.written.ensures target whole (OnWriting (SetUserInput a.sheet a.row a.column a.text)) refl
    (told_where target whole (OnWriting (SetUserInput a.sheet a.row a.column a.text)) own
    (subst (λ (t : List ℕ). IsToldOf whole (OnWriting (SetUserInput a.sheet a.row a.column t)) own) c.as_str.ensures
    (subst (λ (p : CellPlace). IsToldOf whole (OnWriting (SetUserInput a.sheet p.0 p.1 (chars c.as_str.result.now))) own) (stored_pair a.row a.column row column) c.in_ok-input_to_write-in-SetUserInput.ensures))))

pub returns-in_ok-formula_to_write-in-UpdateCellWithFormula : goal.returns-in_ok-formula_to_write-in-UpdateCellWithFormula
returns-in_ok-formula_to_write-in-UpdateCellWithFormula c = λ target.
    let a = c.in-UpdateCellWithFormula in
    let whole = whole_of c.args.model.now.book in
    let own = c.in_ok-formula_to_write-in-UpdateCellWithFormula.field-0 in
    let row : SFits w32 a.row = search rules in
    let column : SFits w32 a.column = search rules in
    subst (λ k. IsPlan target whole (OnWriting (writing_meant k)) c.written-in-UpdateCellWithFormula.result) (sym a.is)
    (c.written-in-UpdateCellWithFormula.ensures target whole (OnWriting (UpdateCellWithFormula a.sheet a.row a.column a.text)) refl
    (told_where target whole (OnWriting (UpdateCellWithFormula a.sheet a.row a.column a.text)) own
    (subst (λ (t : List ℕ). IsToldOf whole (OnWriting (UpdateCellWithFormula a.sheet a.row a.column t)) own) c.as_str-in-UpdateCellWithFormula.ensures
    (subst (λ (p : CellPlace). IsToldOf whole (OnWriting (UpdateCellWithFormula a.sheet p.0 p.1 (chars c.as_str-in-UpdateCellWithFormula.result.now))) own) (stored_pair a.row a.column row column) c.in_ok-formula_to_write-in-UpdateCellWithFormula.ensures))))
