use Rattle.std.proofs.Common.{chars}
use Rattle.ic_parts.specs.Definitions.{body_of_typed}
use Rattle.ic_book.proofs.NameHeld.{defined_binds, defined_book, defined_core, defined_held, defined_looks_up, is_free, it_spares}
use Rattle.ic_laws.specs.Changes.{definition_added}
use Rattle.ic_laws.specs.CoreBook.{spelling_of}
use Rattle.ic_parts.proofs.NameIndexLemmas.{indexed_changed}
use Rattle.ic_book.proofs.model.Model.define.Goals as goal

pub add_definition-requires-clause-free : goal.add_definition-requires-clause-free
add_definition-requires-clause-free c = is_free c.self.inside c.self.invariant.book c.args.self.now c.self.view_is (chars c.args.name.now) c.args.scope c.in_ok-id.id c.in_ok-id.ensures.id (chars c.args.formula.now) (body_of_typed c.in_ok-id.body) c.in_ok-definition.definition c.in_ok-id.ensures.body c.in_ok-id.ensures.refused c.in_ok-definition.ensures

pub add_definition-requires-clause-spares : goal.add_definition-requires-clause-spares
add_definition-requires-clause-spares c = it_spares c.self.inside c.self.invariant.book c.args.self.now c.self.view_is (chars c.args.name.now) c.args.scope c.in_ok-id.id c.in_ok-id.ensures.id (chars c.args.formula.now) (body_of_typed c.in_ok-id.body) c.in_ok-definition.definition c.in_ok-id.ensures.body c.in_ok-id.ensures.refused c.in_ok-definition.ensures

pub invariant_of-self-2 : goal.invariant_of-self-2
invariant_of-self-2 c =
    let same = indexed_changed c.self.inside.names c.self.inside.contents.sheets c.add_definition.new.contents.sheets c.self.inside.contents.definitions c.self.invariant.names (definition_added (spelling_of c.in_ok-definition.definition)) c.in_ok-add_definition.ensures.sheets in
    record {
      book = defined_held c.self.inside c.self.invariant.book c.args.self.now c.self.view_is (chars c.args.name.now) c.args.scope c.in_ok-id.id c.in_ok-id.ensures.id (chars c.args.formula.now) (body_of_typed c.in_ok-id.body) c.in_ok-definition.definition c.in_ok-id.ensures.body c.in_ok-id.ensures.refused c.in_ok-definition.ensures c.add_definition.new.contents.sheets c.add_definition.new.contents.definitions c.in_ok-add_definition.ensures.sheets c.in_ok-add_definition.ensures.definitions;
      names = record { sheets = same.sheets; names = c.add_definition.ensures.finds; numbers = same.numbers };
    }

pub returns-clause-ok : goal.returns-clause-ok
returns-clause-ok c = λ body typed. defined_book c.self.inside c.self.invariant.book c.args.self.now c.self.view_is (chars c.args.name.now) c.args.scope c.in_ok-id.id c.in_ok-id.ensures.id (chars c.args.formula.now) (body_of_typed c.in_ok-id.body) c.in_ok-definition.definition c.in_ok-id.ensures.body c.in_ok-id.ensures.refused c.in_ok-definition.ensures c.add_definition.new.contents.sheets c.add_definition.new.contents.definitions c.in_ok-add_definition.ensures.sheets c.in_ok-add_definition.ensures.definitions body typed

pub returns-clause-core : goal.returns-clause-core
returns-clause-core c = defined_core c.self.inside c.self.invariant.book c.args.self.now c.self.view_is (chars c.args.name.now) c.args.scope c.in_ok-id.id c.in_ok-id.ensures.id (chars c.args.formula.now) (body_of_typed c.in_ok-id.body) c.in_ok-definition.definition c.in_ok-id.ensures.body c.in_ok-id.ensures.refused c.in_ok-definition.ensures c.add_definition.new.contents.sheets c.add_definition.new.contents.definitions c.in_ok-add_definition.ensures.sheets c.in_ok-add_definition.ensures.definitions

pub returns-clause-binds : goal.returns-clause-binds
returns-clause-binds c = λ body typed. defined_binds c.self.inside c.self.invariant.book c.args.self.now c.self.view_is (chars c.args.name.now) c.args.scope c.in_ok-id.id c.in_ok-id.ensures.id (chars c.args.formula.now) (body_of_typed c.in_ok-id.body) c.in_ok-definition.definition c.in_ok-id.ensures.body c.in_ok-id.ensures.refused c.in_ok-definition.ensures c.add_definition.new.contents.sheets c.add_definition.new.contents.definitions c.in_ok-add_definition.ensures.sheets c.in_ok-add_definition.ensures.definitions body typed

pub returns-clause-looks_up : goal.returns-clause-looks_up
returns-clause-looks_up c = defined_looks_up c.self.inside c.self.invariant.book c.args.self.now c.self.view_is (chars c.args.name.now) c.args.scope c.in_ok-id.id c.in_ok-id.ensures.id (chars c.args.formula.now) (body_of_typed c.in_ok-id.body) c.in_ok-definition.definition c.in_ok-id.ensures.body c.in_ok-id.ensures.refused c.in_ok-definition.ensures c.add_definition.new.contents.sheets c.in_ok-add_definition.ensures.looks_up
