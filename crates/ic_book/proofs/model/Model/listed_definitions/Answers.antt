use Rattle.std.proofs.Common.{List, ap, flat_map, ◌∙◌}
use Rattle.std.proofs.lemmas.List.{take_all}
use Rattle.ic_laws.specs.CoreBook.{Definition}
use Rattle.ic_parts.specs.Book.{ModelState, core_of, notations_in}
use Rattle.ic_parts.specs.Definitions.{listed_definition}
use Rattle.ic_book.proofs.model.Model.listed_definitions.Goals as goal

pub returns-clause-list : goal.returns-clause-list
returns-clause-list c =
    c.loop-definition.invariant
    ∙ ap (λ (ds : List Definition). flat_map (listed_definition (notations_in c.args.self.now.book) (core_of c.args.self.now.book)) ds) (take_all c.loop-definition.definition-index c.as_slice-definitions.result.now c.loop-definition-test.false ∙ c.as_slice-definitions.ensures)
    ∙ ap (λ (m : ModelState). flat_map (listed_definition (notations_in c.args.self.now.book) (core_of c.args.self.now.book)) (core_of m.book).definitions) c.self.view_is
