use Rattle.std.proofs.Common.{ap, chars, inl, is_some, option_map, sym, ◌∙◌}
use Rattle.std.specs.List.{list_any}
use Rattle.ic_laws.specs.CoreStep.{is_named}
use Rattle.ic_definitions.proofs.NamesFacts.{position_any}
use Rattle.ic_parts.specs.Book.{ModelState, core_of, notations_in}
use Rattle.ic_parts.specs.Definitions.{body_of_typed}
use Rattle.ic_parts.proofs.NameLemmas.{body_unread, name_accepted, name_taken, no_body}
use Rattle.ic_book.proofs.model.Model.checked_definition.Goals as goal

pub returns-then-is_some-clause-refused : goal.returns-then-is_some-clause-refused
returns-then-is_some-clause-refused c =
    inl (name_taken (notations_in c.args.self.now.book) (core_of c.args.self.now.book) (chars c.args.name.now) c.args.scope (chars c.args.formula.now) c.in-Some.id (sym c.is_valid_identifier.ensures ∙ c.if-not-is_valid_identifier.false) (sym c.scope_id.ensures ∙ c.in-Some.is)
    (ap (λ (m : ModelState). list_any (is_named (chars c.args.name.now) c.in-Some.id) (core_of m.book).definitions) (sym c.self.view_is) ∙ sym (position_any (is_named (chars c.args.name.now) c.in-Some.id) c.self.inside.contents.definitions) ∙ ap is_some (sym c.index_of.ensures) ∙ sym c.is_some.ensures ∙ c.if-is_some.true))

pub returns-in_err-body-clause-refused : goal.returns-in_err-body-clause-refused
returns-in_err-body-clause-refused c =
    body_unread (notations_in c.args.self.now.book) (core_of c.args.self.now.book) (chars c.args.name.now) c.args.scope (chars c.args.formula.now) c.in-Some.id (sym c.is_valid_identifier.ensures ∙ c.if-not-is_valid_identifier.false) (sym c.scope_id.ensures ∙ c.in-Some.is)
    c.from_residual.result (ap (λ (m : ModelState). list_any (is_named (chars c.args.name.now) c.in-Some.id) (core_of m.book).definitions) (sym c.self.view_is) ∙ sym (position_any (is_named (chars c.args.name.now) c.in-Some.id) c.self.inside.contents.definitions) ∙ ap is_some (sym c.index_of.ensures) ∙ sym c.is_some.ensures ∙ c.if-is_some.false) c.from_residual.ensures

pub returns-in-Some-2-clause-refused : goal.returns-in-Some-2-clause-refused
returns-in-Some-2-clause-refused c =
    name_accepted (notations_in c.args.self.now.book) (core_of c.args.self.now.book) (chars c.args.name.now) c.args.scope (chars c.args.formula.now) c.in-Some.id (sym c.is_valid_identifier.ensures ∙ c.if-not-is_valid_identifier.false) (sym c.scope_id.ensures ∙ c.in-Some.is)
    (ap (λ (m : ModelState). list_any (is_named (chars c.args.name.now) c.in-Some.id) (core_of m.book).definitions) (sym c.self.view_is) ∙ sym (position_any (is_named (chars c.args.name.now) c.in-Some.id) c.self.inside.contents.definitions) ∙ ap is_some (sym c.index_of.ensures) ∙ sym c.is_some.ensures ∙ c.if-is_some.false) (body_of_typed c.in-Some-2.body) (sym c.in_ok-body.ensures ∙ ap (option_map body_of_typed) c.in-Some-2.is)

pub returns-in-None-clause-refused : goal.returns-in-None-clause-refused
returns-in-None-clause-refused c =
    inl (no_body (notations_in c.args.self.now.book) (core_of c.args.self.now.book) (chars c.args.name.now) c.args.scope (chars c.args.formula.now) c.in-Some.id (sym c.is_valid_identifier.ensures ∙ c.if-not-is_valid_identifier.false) (sym c.scope_id.ensures ∙ c.in-Some.is)
    (ap (λ (m : ModelState). list_any (is_named (chars c.args.name.now) c.in-Some.id) (core_of m.book).definitions) (sym c.self.view_is) ∙ sym (position_any (is_named (chars c.args.name.now) c.in-Some.id) c.self.inside.contents.definitions) ∙ ap is_some (sym c.index_of.ensures) ∙ sym c.is_some.ensures ∙ c.if-is_some.false) (sym c.in_ok-body.ensures ∙ ap (option_map body_of_typed) c.in-None.is))
