-- Where a book mentions a sheet or a definition: the cells whose formulas do, and the definitions whose bodies do.
use Rattle.std.specs.Prelude.{ℕ, List, [], ◌∷◌, ◌++◌, flat_map, Bool, not, Option, Some, None, is_none, slice_get, if◌then◌else◌}
use Rattle.std.specs.FinMap as finite
use Rattle.std.specs.Option.{option_map_or}
use Rattle.ic_laws.specs.CoreBook.{CellPlace, CoreBook, Definition, spelling_of}
use Rattle.ic_laws.specs.CoreStep.{has_definition, lacks_sheet, scope_of, scope_or_none}
use Rattle.ic_laws.specs.Name.{fold}
use Rattle.ic_laws.specs.Refusal as core
use Rattle.ic_laws.specs.Scene.{key_of}
use Rattle.ic_laws.specs.declared.tree.Formula.{Formula}
use Rattle.ic_laws.specs.declared.tree.NameKey.{NameKey}
use Rattle.ic_machine.specs.Book.{Book, Entry, Sheet, core_of}
use Rattle.ic_machine.specs.Content.{formula_in, formula_index}
use Rattle.ic_machine.specs.Refusal.{CellSite, DefinitionSite, Site}
pub use Rattle.ic_pool.specs.Mentioning.{mentions_name, mentions_sheet}

module _ (test : Formula → Bool) where
  -- a cell whose formula passes a test; of an array its first cell has the formula
  abbrev pub passing_cell : Sheet → CellPlace → Option ℕ → List Site
  passing_cell sheet place None = []
  passing_cell sheet place (Some index) = if test (formula_in sheet.pool index) then CellSite sheet.id place ∷ [] else []

  -- those of a sheet, by rows and columns
  abbrev pub passing_cells : Sheet → List Site
  passing_cells sheet = flat_map (λ (entry : Entry). passing_cell sheet entry.0 (formula_index entry.1)) (finite.entries sheet.grid.contents)

  -- a definition whose body passes
  abbrev pub passing_body : Definition → List Site
  passing_body definition = if test definition.body then DefinitionSite (key_of (spelling_of definition)) ∷ [] else []

  -- all of them, each once: cells by sheets, rows and columns, then definitions in their order, also those that are local to
  -- a sheet which is gone
  abbrev pub passing_sites : Book → List Site
  passing_sites book = flat_map passing_cells book.sheets ++ flat_map passing_body book.definitions

-- the sites that mention the sheet with this id, and those that mention the definition with this key
abbrev pub sites_of_sheet : ℕ → Book → List Site
sites_of_sheet id book = passing_sites (mentions_sheet id) book

abbrev pub sites_of_name : NameKey → Book → List Site
sites_of_name key book = passing_sites (mentions_name key) book

-- the sheet is told by its index: there must be one
abbrev pub sites_of_sheet_at : ℕ → Book → List Site
sites_of_sheet_at index book = option_map_or (λ (sheet : Sheet). sites_of_sheet sheet.id book) (slice_get book.sheets index) []

abbrev pub sheet_sites_refusal : CoreBook → ℕ → Option core.Refusal
sheet_sites_refusal book index = core.first_refusal ((lacks_sheet book index, core.InvalidSheet) ∷ [])

-- The definition is told by its name, in any case, and the index of the sheet that it is local to, or none. There must be such
-- a sheet, and such a definition: one for all sheets isn't found by an index.
abbrev pub sites_of_name_in : List ℕ → Option ℕ → Book → List Site
sites_of_name_in name index book = sites_of_name (record { name = fold name; scope = scope_or_none (core_of book) index }) book

abbrev pub name_sites_refusal : CoreBook → List ℕ → Option ℕ → Option core.Refusal
name_sites_refusal book name index =
    core.first_refusal ((is_none (scope_of book index), core.InvalidScope) ∷ (not (has_definition book name (scope_or_none book index)), core.NameNotFound) ∷ [])
