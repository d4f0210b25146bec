-- What an update of a definition captures in a book: the formulas with a word that meant a definition before it, and doesn't
-- mean the same definition after it.
use Rattle.std.specs.Prelude.{ℕ, List, [], ◌∷◌, ◌++◌, flat_map, Bool, true, false, Option, Some, None, if◌then◌else◌}
use Rattle.std.specs.FinMap as finite
use Rattle.std.specs.List.{zip}
use Rattle.ic_laws.specs.CoreBook.{CellPlace, Definition, spelling_of}
use Rattle.ic_laws.specs.Keeping.{KeyChange}
use Rattle.ic_laws.specs.Scene.{key_of, same_key}
use Rattle.ic_laws.specs.declared.tree.NameKey.{NameKey}
use Rattle.ic_machine.specs.Book.{Book, Entry, Sheet}
use Rattle.ic_machine.specs.Content.{formula_in, formula_index}
use Rattle.ic_machine.specs.Refusal.{CellSite, DefinitionSite, Site}
pub use Rattle.ic_keep.specs.Capture.{captured, captured_formula, is_captured, means, words_in, words_step}

module _ (keys : KeyChange) where
  -- a cell whose formula holds such a word
  abbrev pub captured_at : Sheet → Sheet → CellPlace → Option ℕ → List Site
  captured_at before after place None = []
  captured_at before after place (Some index) =
      if captured_formula keys (formula_in before.pool index) (formula_in after.pool index) then CellSite before.id place ∷ [] else []

  abbrev pub captured_cells : Sheet × Sheet → List Site
  captured_cells sheets = flat_map (λ (entry : Entry). captured_at sheets.0 sheets.1 entry.0 (formula_index entry.1)) (finite.entries sheets.0.grid.contents)

  -- a definition other than the one that is updated whose body does
  abbrev pub captured_body : NameKey → Definition × Definition → List Site
  captured_body updated definitions =
      if same_key updated (key_of (spelling_of definitions.0)) then []
      else if captured_formula keys definitions.0.body definitions.1.body then DefinitionSite (key_of (spelling_of definitions.0)) ∷ [] else []

  -- all of them: cells by sheets, rows and columns, then definitions in their order
  abbrev pub captured_sites : NameKey → Book → Book → List Site
  captured_sites updated before after =
      flat_map captured_cells (zip before.sheets after.sheets) ++ flat_map (captured_body updated) (zip before.definitions after.definitions)

abbrev pub has_sites : List Site → Bool
has_sites [] = false
has_sites (site ∷ sites) = true
