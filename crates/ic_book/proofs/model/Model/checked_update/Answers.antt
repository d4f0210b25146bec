use Rattle.std.proofs.Common.{ap, chars, inl, not, option_map, refl, sym, ◌&&◌, ◌∙◌}
use Rattle.std.specs.Prelude.{position}
use Rattle.std.specs.List.{list_any}
use Rattle.ic_laws.specs.CoreStep.{is_named}
use Rattle.ic_laws.specs.Name.{agrees}
use Rattle.ic_laws.specs.Scene.{same_scope}
use Rattle.ic_machine.specs.subjects.Definitions.{update_of}
use Rattle.ic_definitions.proofs.NamesFacts.{position_none, some_position}
use Rattle.ic_parts.specs.Book.{ModelState}
use Rattle.ic_parts.specs.Definitions.{body_of_typed}
use Rattle.ic_changes.proofs.UpdatedChecks.{asked, asked_late, is_checked, meets, unnamed, unread}
use Rattle.ic_book.proofs.model.Model.checked_update.Goals as goal

pub returns-then-meets_other-clause-refused : goal.returns-then-meets_other-clause-refused
returns-then-meets_other-clause-refused c =
    inl (meets c.args.self.now.book (update_of (chars c.args.name.now) c.args.scope (chars c.args.new_name.now) c.args.new_scope (chars c.args.formula.now)) (sym c.is_valid_identifier.ensures ∙ c.if-not-is_valid_identifier.false) c.in-Some.old_scope c.in-Some-scope_id.new_scope (sym c.scope_id.ensures ∙ c.in-Some.is) (sym c.scope_id-2.ensures ∙ c.in-Some-scope_id.is)
    (ap (λ (m : ModelState). list_any (is_named (chars c.args.new_name.now) c.in-Some-scope_id.new_scope) m.book.definitions && not (agrees (chars c.args.name.now) (chars c.args.new_name.now) && same_scope c.in-Some.old_scope c.in-Some-scope_id.new_scope)) (sym c.self.view_is)
    ∙ sym c.meets_other.ensures ∙ c.if-meets_other.true))

pub returns-in_err-body-clause-refused : goal.returns-in_err-body-clause-refused
returns-in_err-body-clause-refused c =
    asked_late c.args.self.now.book (update_of (chars c.args.name.now) c.args.scope (chars c.args.new_name.now) c.args.new_scope (chars c.args.formula.now)) (sym c.is_valid_identifier.ensures ∙ c.if-not-is_valid_identifier.false) c.in-Some.old_scope c.in-Some-scope_id.new_scope (sym c.scope_id.ensures ∙ c.in-Some.is) (sym c.scope_id-2.ensures ∙ c.in-Some-scope_id.is)
    (ap (λ (m : ModelState). list_any (is_named (chars c.args.new_name.now) c.in-Some-scope_id.new_scope) m.book.definitions && not (agrees (chars c.args.name.now) (chars c.args.new_name.now) && same_scope c.in-Some.old_scope c.in-Some-scope_id.new_scope)) (sym c.self.view_is)
    ∙ sym c.meets_other.ensures ∙ c.if-meets_other.false) c.from_residual.result c.from_residual.ensures

pub returns-in_default-2-clause-refused : goal.returns-in_default-2-clause-refused
returns-in_default-2-clause-refused c =
    inl (unread c.args.self.now.book (update_of (chars c.args.name.now) c.args.scope (chars c.args.new_name.now) c.args.new_scope (chars c.args.formula.now)) (sym c.is_valid_identifier.ensures ∙ c.if-not-is_valid_identifier.false) c.in-Some.old_scope c.in-Some-scope_id.new_scope (sym c.scope_id.ensures ∙ c.in-Some.is) (sym c.scope_id-2.ensures ∙ c.in-Some-scope_id.is)
    (ap (λ (m : ModelState). list_any (is_named (chars c.args.new_name.now) c.in-Some-scope_id.new_scope) m.book.definitions && not (agrees (chars c.args.name.now) (chars c.args.new_name.now) && same_scope c.in-Some.old_scope c.in-Some-scope_id.new_scope)) (sym c.self.view_is)
    ∙ sym c.meets_other.ensures ∙ c.if-meets_other.false) (sym c.in_ok-body.ensures ∙ ap (option_map body_of_typed) c.in_default-2.is))

pub returns-in-Some-found-clause-checked : goal.returns-in-Some-found-clause-checked
returns-in-Some-found-clause-checked c =
    is_checked c.args.self.now.book (update_of (chars c.args.name.now) c.args.scope (chars c.args.new_name.now) c.args.new_scope (chars c.args.formula.now)) (sym c.is_valid_identifier.ensures ∙ c.if-not-is_valid_identifier.false) c.in-Some.old_scope c.in-Some-scope_id.new_scope (sym c.scope_id.ensures ∙ c.in-Some.is) (sym c.scope_id-2.ensures ∙ c.in-Some-scope_id.is)
    (ap (λ (m : ModelState). list_any (is_named (chars c.args.new_name.now) c.in-Some-scope_id.new_scope) m.book.definitions && not (agrees (chars c.args.name.now) (chars c.args.new_name.now) && same_scope c.in-Some.old_scope c.in-Some-scope_id.new_scope)) (sym c.self.view_is)
    ∙ sym c.meets_other.ensures ∙ c.if-meets_other.false) (record { old_scope = c.in-Some.old_scope; new_scope = c.in-Some-scope_id.new_scope; index = c.in-Some-found.index; body = c.in-Some-2.body }) refl refl
    (ap (λ (m : ModelState). position (is_named (chars c.args.name.now) c.in-Some.old_scope) m.book.definitions) (sym c.self.view_is) ∙ sym c.index_of-found.ensures ∙ c.in-Some-found.is) (sym c.in_ok-body.ensures ∙ ap (option_map body_of_typed) c.in-Some-2.is)

pub returns-in-Some-found-clause-refused : goal.returns-in-Some-found-clause-refused
returns-in-Some-found-clause-refused c =
    asked c.args.self.now.book (update_of (chars c.args.name.now) c.args.scope (chars c.args.new_name.now) c.args.new_scope (chars c.args.formula.now)) (sym c.is_valid_identifier.ensures ∙ c.if-not-is_valid_identifier.false) c.in-Some.old_scope c.in-Some-scope_id.new_scope (sym c.scope_id.ensures ∙ c.in-Some.is) (sym c.scope_id-2.ensures ∙ c.in-Some-scope_id.is)
    (ap (λ (m : ModelState). list_any (is_named (chars c.args.new_name.now) c.in-Some-scope_id.new_scope) m.book.definitions && not (agrees (chars c.args.name.now) (chars c.args.new_name.now) && same_scope c.in-Some.old_scope c.in-Some-scope_id.new_scope)) (sym c.self.view_is)
    ∙ sym c.meets_other.ensures ∙ c.if-meets_other.false) (body_of_typed c.in-Some-2.body) (sym c.in_ok-body.ensures ∙ ap (option_map body_of_typed) c.in-Some-2.is)
    (some_position (is_named (chars c.args.name.now) c.in-Some.old_scope) c.args.self.now.book.definitions c.in-Some-found.index (ap (λ (m : ModelState). position (is_named (chars c.args.name.now) c.in-Some.old_scope) m.book.definitions) (sym c.self.view_is) ∙ sym c.index_of-found.ensures ∙ c.in-Some-found.is))

pub returns-in-None-clause-refused : goal.returns-in-None-clause-refused
returns-in-None-clause-refused c =
    inl (unnamed c.args.self.now.book (update_of (chars c.args.name.now) c.args.scope (chars c.args.new_name.now) c.args.new_scope (chars c.args.formula.now)) (sym c.is_valid_identifier.ensures ∙ c.if-not-is_valid_identifier.false) c.in-Some.old_scope c.in-Some-scope_id.new_scope (sym c.scope_id.ensures ∙ c.in-Some.is) (sym c.scope_id-2.ensures ∙ c.in-Some-scope_id.is)
    (ap (λ (m : ModelState). list_any (is_named (chars c.args.new_name.now) c.in-Some-scope_id.new_scope) m.book.definitions && not (agrees (chars c.args.name.now) (chars c.args.new_name.now) && same_scope c.in-Some.old_scope c.in-Some-scope_id.new_scope)) (sym c.self.view_is)
    ∙ sym c.meets_other.ensures ∙ c.if-meets_other.false) (body_of_typed c.in-Some-2.body) (sym c.in_ok-body.ensures ∙ ap (option_map body_of_typed) c.in-Some-2.is)
    (position_none (is_named (chars c.args.name.now) c.in-Some.old_scope) c.args.self.now.book.definitions (ap (λ (m : ModelState). position (is_named (chars c.args.name.now) c.in-Some.old_scope) m.book.definitions) (sym c.self.view_is) ∙ sym c.index_of-found.ensures ∙ c.in-None.is)))
