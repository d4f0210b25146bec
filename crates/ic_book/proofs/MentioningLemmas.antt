-- What a model lists as mentioning a sheet or a definition is what the machine says of the whole book.
use Rattle.std.proofs.Common.{◌≡◌, List, ◌++◌, map, ap, ap₂, ◌∙◌}
use Rattle.std.proofs.lemmas.List.{map-append}
use Rattle.std.specs.Prelude.{flat_map}
use Rattle.ic_machine.specs.Refusal.{Site}
use Rattle.ic_machine.specs.Sites.{passing_sites}
use Rattle.ic_parts.specs.Book.{ModelState, whole_of}
use Rattle.ic_book.specs.Inside.{held_state}
use Rattle.ic_changes.specs.Mentioning.{cells_passing, definition_passing, mentions, sites_passing}
use Rattle.ic_parts.specs.Sites.{site_of}
use Rattle.ic_changes.specs.declared.mentioning.Sought.{Sought}
use Rattle.ic_book.specs.declared.model.Model.TheInside.{Inside}
use Rattle.ic_changes.proofs.MentioningLemmas.{bodies_seen, nothing_in_raw, sheets_seen}

-- what is listed of the contents of a model
pub listed_seen : (s : Sought) (inside : Inside) (now : ModelState) → held_state inside ≡ now → map site_of (sites_passing (mentions s) inside.contents.sheets inside.contents.definitions) ≡ passing_sites (mentions s) (whole_of now.book)
listed_seen s inside now same =
    map-append site_of (flat_map (cells_passing (mentions s)) inside.contents.sheets) (flat_map (definition_passing (mentions s)) inside.contents.definitions)
    ∙ ap₂ (λ (a b : List Site). a ++ b) (sheets_seen (mentions s) (nothing_in_raw s) inside.lists.strings inside.contents.sheets) (bodies_seen (mentions s) (nothing_in_raw s) inside.contents.definitions)
    ∙ ap (λ (m : ModelState). passing_sites (mentions s) (whole_of m.book)) same
