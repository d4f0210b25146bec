use Rattle.std.proofs.Common.{List, ap, chars, get_or, is_some, sym, ◌∙◌}
use Rattle.std.specs.List.{list_any}
use Rattle.ic_laws.specs.CoreBook.{Definition}
use Rattle.ic_laws.specs.CoreStep.{is_named}
use Rattle.ic_definitions.proofs.NamesFacts.{position_any}
use Rattle.ic_parts.specs.Book.{ModelState, core_of}
use Rattle.ic_changes.proofs.MentioningLemmas.{key_is}
use Rattle.ic_book.proofs.model.Model.key_named.Goals as goal

pub returns-in_err-index-clause-found : goal.returns-in_err-index-clause-found
returns-in_err-index-clause-found c =
    ap is_some c.from_residual.ensures ∙ sym (ap is_some c.in_err-index.was) ∙ ap is_some c.index_of.ensures ∙ position_any (is_named (chars c.args.name.now) c.args.id) c.self.inside.contents.definitions
    ∙ ap (λ (m : ModelState). list_any (is_named (chars c.args.name.now) c.args.id) (core_of m.book).definitions) c.self.view_is

pub returns-clause-found : goal.returns-clause-found
returns-clause-found c =
    sym (ap is_some c.in_ok-index.was) ∙ ap is_some c.index_of.ensures ∙ position_any (is_named (chars c.args.name.now) c.args.id) c.self.inside.contents.definitions
    ∙ ap (λ (m : ModelState). list_any (is_named (chars c.args.name.now) c.args.id) (core_of m.book).definitions) c.self.view_is

pub returns-clause-key : goal.returns-clause-key
returns-clause-key c =
    c.key.ensures
    ∙ key_is (chars c.args.name.now) c.args.id c.self.inside.contents.definitions c.in_ok-index.index c.index-as_slice-index.result (sym c.index_of.ensures ∙ c.in_ok-index.was)
    (c.index-as_slice-index.is ∙ ap (λ (ds : List Definition). get_or ds c.in_ok-index.index c.index-as_slice-index.result) c.as_slice.ensures)
