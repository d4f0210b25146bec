use Rattle.std.proofs.Common.{ap, chars, position, subst, sym, ◌∙◌}
use Rattle.ic_laws.specs.CoreStep.{is_named}
use Rattle.ic_parts.specs.Book.{ModelState, core_of}
use Rattle.ic_parts.specs.Refused.{Refuses}
use Rattle.ic_parts.proofs.HeldLemmas.{no_memory}
use Rattle.ic_book.proofs.NameHeld.{it_goes, undefined_book, undefined_core, undefined_dangles, undefined_held, undefined_looks_up}
use Rattle.ic_parts.proofs.NameLemmas.{no_name}
use Rattle.std.specs.Prelude.{remove}
use Rattle.ic_definitions.specs.Named.{definitions_scene}
use Rattle.ic_laws.specs.Changes.{definition_gone}
use Rattle.ic_laws.specs.CoreBook.{spelling_of}
use Rattle.ic_parts.proofs.NameIndexLemmas.{indexed_changed}
use Rattle.ic_definitions.proofs.NamesFacts.{item_at_position}
use Rattle.ic_book.proofs.model.Model.undefine.Goals as goal

pub returns-in_default-index_of-clause-refused : goal.returns-in_default-index_of-clause-refused
returns-in_default-index_of-clause-refused c =
    no_name (core_of c.args.self.now.book) (chars c.args.name.now) c.args.scope c.in-Some.id (sym c.scope_id.ensures ∙ c.in-Some.is)
    (ap (λ (m : ModelState). position (is_named (chars c.args.name.now) c.in-Some.id) (core_of m.book).definitions) (sym c.self.view_is) ∙ sym c.index_of.ensures ∙ c.in_default-index_of.is)

pub returns-in_err-delete_at-clause-refused : goal.returns-in_err-delete_at-clause-refused
returns-in_err-delete_at-clause-refused c =
    subst (Refuses c.from_residual.result) (sym (it_goes c.self.inside c.self.invariant.book c.args.self.now c.self.view_is (chars c.args.name.now) c.args.scope c.in-Some.id (sym c.scope_id.ensures ∙ c.in-Some.is) c.in-Some-index_of.index (sym c.index_of.ensures ∙ c.in-Some-index_of.is))) (no_memory c.from_residual.result c.from_residual.ensures)

pub invariant_of-self-2 : goal.invariant_of-self-2
invariant_of-self-2 c =
    let there = item_at_position (is_named (chars c.args.name.now) c.in-Some.id) c.self.inside.contents.definitions c.in-Some-index_of.index (sym c.index_of.ensures ∙ c.in-Some-index_of.is) in
    let same = indexed_changed c.self.inside.names c.self.inside.contents.sheets c.delete_at.new.contents.sheets c.self.inside.contents.definitions c.self.invariant.names (definition_gone (definitions_scene (remove c.self.inside.contents.definitions c.in-Some-index_of.index)) (spelling_of there.0)) (c.in_ok-delete_at.ensures.sheets there.0 there.1) in
    record {
      book = undefined_held c.self.inside c.self.invariant.book c.args.self.now c.self.view_is (chars c.args.name.now) c.args.scope c.in-Some.id (sym c.scope_id.ensures ∙ c.in-Some.is) c.in-Some-index_of.index (sym c.index_of.ensures ∙ c.in-Some-index_of.is) c.delete_at.new.contents.sheets c.delete_at.new.contents.definitions c.in_ok-delete_at.ensures.sheets c.in_ok-delete_at.ensures.definitions;
      names = record { sheets = same.sheets; names = c.delete_at.ensures.finds; numbers = same.numbers };
    }

pub returns-clause-ok : goal.returns-clause-ok
returns-clause-ok c = undefined_book c.self.inside c.self.invariant.book c.args.self.now c.self.view_is (chars c.args.name.now) c.args.scope c.in-Some.id (sym c.scope_id.ensures ∙ c.in-Some.is) c.in-Some-index_of.index (sym c.index_of.ensures ∙ c.in-Some-index_of.is) c.delete_at.new.contents.sheets c.delete_at.new.contents.definitions c.in_ok-delete_at.ensures.sheets c.in_ok-delete_at.ensures.definitions

pub returns-clause-core : goal.returns-clause-core
returns-clause-core c = undefined_core c.self.inside c.self.invariant.book c.args.self.now c.self.view_is (chars c.args.name.now) c.args.scope c.in-Some.id (sym c.scope_id.ensures ∙ c.in-Some.is) c.in-Some-index_of.index (sym c.index_of.ensures ∙ c.in-Some-index_of.is) c.delete_at.new.contents.sheets c.delete_at.new.contents.definitions c.in_ok-delete_at.ensures.sheets c.in_ok-delete_at.ensures.definitions

pub returns-clause-dangles : goal.returns-clause-dangles
returns-clause-dangles c = undefined_dangles c.self.inside c.self.invariant.book c.args.self.now c.self.view_is (chars c.args.name.now) c.args.scope c.in-Some.id (sym c.scope_id.ensures ∙ c.in-Some.is) c.in-Some-index_of.index (sym c.index_of.ensures ∙ c.in-Some-index_of.is) c.delete_at.new.contents.sheets c.delete_at.new.contents.definitions c.in_ok-delete_at.ensures.sheets c.in_ok-delete_at.ensures.definitions

pub returns-clause-refused : goal.returns-clause-refused
returns-clause-refused c = it_goes c.self.inside c.self.invariant.book c.args.self.now c.self.view_is (chars c.args.name.now) c.args.scope c.in-Some.id (sym c.scope_id.ensures ∙ c.in-Some.is) c.in-Some-index_of.index (sym c.index_of.ensures ∙ c.in-Some-index_of.is)

pub returns-clause-looks_up : goal.returns-clause-looks_up
returns-clause-looks_up c = undefined_looks_up c.self.inside c.self.invariant.book c.args.self.now c.self.view_is (chars c.args.name.now) c.args.scope c.in-Some.id (sym c.scope_id.ensures ∙ c.in-Some.is) c.in-Some-index_of.index (sym c.index_of.ensures ∙ c.in-Some-index_of.is) c.delete_at.new.contents.sheets c.in_ok-delete_at.ensures.looks_up
