use Rattle.std.proofs.Common.{◌≡◌, ℕ, List, chars, length, string_bytes, subst, sym, ap, ◌∙◌, rules}
use Rattle.std.proofs.lemmas.List.{length-map}
use Rattle.std.specs.Prelude.{is_none}
use Rattle.ic_laws.specs.CoreStep.{add_sheet_refusal}
use Rattle.ic_machine.specs.subjects.Sheets.{NewSheet, sheet_step}
use Rattle.ic_sheets.specs.Sheet.{sheet_of}
use Rattle.ic_parts.specs.Book.{IsValidBook, ModelState, core_of}
use Rattle.ic_parts.specs.Change.{book_changed_by, with_added_sheet}
use Rattle.ic_parts.specs.Does.{Does}
use Rattle.ic_parts.specs.Fields.{named_sheet_fields}
use Rattle.ic_parts.specs.Refused.{TellsCore}
use Rattle.ic_changes.specs.LookUps.{LooksUpAdded}
use Rattle.ic_parts.specs.Mentioned.{BindsAdded}
use Rattle.ic_book.proofs.NewSheetLemmas.{new_done, new_failed, new_numbered, new_used_up, new_wants}
use Rattle.ic_book.proofs.model.Model.new_sheet.Goals as goal

pub returns-then-is_none-clause-does : goal.returns-then-is_none-clause-does
returns-then-is_none-clause-does c =
    new_used_up c.args.self.now (subst (λ (m : ModelState). IsValidBook m.book) c.self.view_is c.self.invariant.book)
    (ap is_none (sym c.get_new_sheet_id.ensures.fresh) ∙ search rules) named_sheet_fields

pub returns-in_err-name-clause-does : goal.returns-in_err-name-clause-does
returns-in_err-name-clause-does c =
    subst (Does sheet_step NewSheet named_sheet_fields c.from_residual.result c.args.self.now) (sym c.new_name.ensures.same)
    (new_wants c.args.self.now (subst (λ (m : ModelState). IsValidBook m.book) c.self.view_is c.self.invariant.book)
    (ap is_none (sym c.get_new_sheet_id.ensures.fresh) ∙ search rules) named_sheet_fields c.from_residual.result c.from_residual.ensures)

pub returns-in_err-append_sheet-clause-does : goal.returns-in_err-append_sheet-clause-does
returns-in_err-append_sheet-clause-does c =
    new_failed c.args.self.now (subst (λ (m : ModelState). IsValidBook m.book) c.new_name.ensures.same c.append_sheet.ensures.valid)
    (ap is_none (sym c.get_new_sheet_id.ensures.fresh) ∙ search rules) named_sheet_fields _ (ap chars c.as_str.ensures.value ∙ c.in_ok-name.ensures.named)
    _ (subst (λ (m : ModelState). TellsCore c.in_err-append_sheet.field-0.0 (add_sheet_refusal (core_of m.book) (chars c.as_str.result.now))) c.new_name.ensures.same c.in_err-append_sheet.ensures.refused) c.from_residual-in_err-append_sheet.result c.from_residual-in_err-append_sheet.ensures c.append_sheet.new.self (c.in_err-append_sheet.ensures.err ∙ c.new_name.ensures.same)

pub returns-clause-does : goal.returns-clause-does
returns-clause-does c =
    new_done c.args.self.now (subst (λ (m : ModelState). IsValidBook m.book) c.new_name.ensures.same c.append_sheet.ensures.valid)
    (ap is_none (sym c.get_new_sheet_id.ensures.fresh) ∙ search rules) c.append_sheet.new.self c.in_ok-name.name c.len-index.result c.in_ok-name.ensures.named
    (c.len-index.ensures ∙ sym (length-map c.self.inside.contents.sheets sheet_of) ∙ ap (λ (m : ModelState). length m.book.sheets) c.self.view_is)
    (subst (λ (bytes : List ℕ). c.append_sheet.new.self.book ≡ book_changed_by (with_added_sheet (chars bytes)) c.args.self.now.book) c.as_str.ensures.value
    (c.in_ok-append_sheet.ensures.ok ∙ ap (λ (m : ModelState). book_changed_by (with_added_sheet (chars c.as_str.result.now)) m.book) c.new_name.ensures.same))

pub returns-clause-numbered : goal.returns-clause-numbered
returns-clause-numbered c = new_numbered c.args.self.now (subst (λ (m : ModelState). IsValidBook m.book) c.new_name.ensures.same c.append_sheet.ensures.valid) (chars (string_bytes c.in_ok-name.name)) c.in_ok-name.ensures.named

pub returns-clause-binds : goal.returns-clause-binds
returns-clause-binds c =
    subst (λ (bytes : List ℕ). BindsAdded (chars bytes) c.args.self.now.book c.append_sheet.new.self.book) c.as_str.ensures.value
    (subst (λ (m : ModelState). BindsAdded (chars c.as_str.result.now) m.book c.append_sheet.new.self.book) c.new_name.ensures.same c.in_ok-append_sheet.ensures.binds)

pub returns-clause-looks_up : goal.returns-clause-looks_up
returns-clause-looks_up c =
    subst (λ (bytes : List ℕ). LooksUpAdded (chars bytes) c.args.self.now c.append_sheet.new.self) c.as_str.ensures.value
    (subst (λ (m : ModelState). LooksUpAdded (chars c.as_str.result.now) m c.append_sheet.new.self) c.new_name.ensures.same c.in_ok-append_sheet.ensures.looks_up)
