use Rattle.std.proofs.Common.{◌∙◌, ap, find, option_map, position}
use Rattle.ic_laws.specs.Scene.{same_key}
use Rattle.ic_definitions.specs.Named.{key_in}
use Rattle.ic_laws.specs.Name.{fold}
use Rattle.std.specs.Prelude.{bytes_eq}
use Rattle.ic_parts.specs.Book.{ModelState}
use Rattle.ic_definitions.proofs.FindingLemmas.{place_is}
use Rattle.ic_parts.proofs.NameIndexLemmas.{sheet_found}
use Rattle.ic_book.proofs.model.Model.name_index.Goals as goal

pub returns-clause-sheets : goal.returns-clause-sheets
returns-clause-sheets c = λ name.
    c.self.invariant.names.sheets name ∙ sheet_found c.self.inside.contents.sheets name
    ∙ ap (λ (m : ModelState). option_map (λ s. s.id) (find (λ s. bytes_eq (fold s.name) name) m.book.sheets)) c.self.view_is

pub returns-clause-names : goal.returns-clause-names
returns-clause-names c = λ key.
    c.self.invariant.names.names key ∙ place_is key c.self.inside.contents.definitions
    ∙ ap (λ (m : ModelState). position (λ d. same_key (key_in d) key) m.book.definitions) c.self.view_is
