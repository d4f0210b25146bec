-- What becomes of all formulas when the sheets or the definitions of a book change: each is kept, in the pools and in the
-- bodies of definitions.
use Rattle.std.specs.Prelude.{ℕ, List, [], ◌∷◌, ◌++◌, map, remove, Option, None, Some}
use Rattle.ic_laws.specs.CoreBook.{Definition}
use Rattle.ic_laws.specs.CoreStep.{moved, updated_at}
use Rattle.ic_laws.specs.Keeping.{KeyChange, kept_formula, kept_in_body, same_keys}
use Rattle.ic_laws.specs.Notations.{Notations, english_function}
use Rattle.ic_laws.specs.declared.scene.Scene.{Scene}
use Rattle.ic_machine.specs.Book.{Book, Sheet, notations_in, scene_in}

module _ (n : Notations) (before after : Scene) (change : KeyChange) where
  -- a sheet with each formula of its pool kept
  abbrev pub with_kept_pool : Sheet → Sheet
  with_kept_pool sheet = record sheet { pool = map (kept_formula (english_function n) before after change (Some sheet.id)) sheet.pool }

  -- a book with all formulas kept
  abbrev pub with_kept_formulas : Book → Book
  with_kept_formulas book =
      record book { sheets = map with_kept_pool book.sheets; definitions = map (kept_in_body n before after change) book.definitions }

-- a change of the sheets or the definitions, with all formulas kept over it; a definition may have a new key
abbrev pub changed_with : KeyChange → (Book → Book) → Book → Book
changed_with keys change book = change (with_kept_formulas (notations_in book) (scene_in book) (scene_in (change book)) keys book)

abbrev pub changed_by : (Book → Book) → Book → Book
changed_by change book = changed_with same_keys change book

-- the changes ----

abbrev pub with_renamed_sheet : ℕ → List ℕ → Book → Book
with_renamed_sheet index name book = record book { sheets = updated_at (λ s. record s { name = name }) index book.sheets }

abbrev pub with_removed_sheet : ℕ → Book → Book
with_removed_sheet index book = record book { sheets = remove book.sheets index }

abbrev pub with_moved_sheet : ℕ → ℕ → Book → Book
with_moved_sheet from to book = record book { sheets = moved from to book.sheets }

abbrev pub with_definition : Definition → Book → Book
with_definition definition book = record book { definitions = book.definitions ++ definition ∷ [] }

-- as it is where there is none
abbrev pub without_definition : Option ℕ → Book → Book
without_definition None book = book
without_definition (Some index) book = record book { definitions = remove book.definitions index }
