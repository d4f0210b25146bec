-- What the commands on sheets and definitions do to a whole book: its core is stepped as the machine's, and each formula
-- of each pool is kept at its place.
use Rattle.std.specs.Prelude.{ℕ, ◌+◌, List, [], ◌∷◌, ◌++◌, insert, map, remove, Option, None, Some}
use Rattle.ic_laws.specs.BookTrees.{with_body_tree}
use Rattle.ic_laws.specs.Changes.{Change, changed_tree}
use Rattle.ic_laws.specs.CoreBook.{Definition, greatest_id}
use Rattle.ic_laws.specs.CoreStep.{moved, updated_at}
use Rattle.ic_laws.specs.Keeping.{kept_in_body, same_keys}
use Rattle.ic_laws.specs.Notations.{Notations}
use Rattle.ic_laws.specs.declared.scene.Scene.{Scene}
use Rattle.ic_sheets.specs.Rewriting.{changed_pool}
use Rattle.ic_sheets.specs.Sheet.{empty_grid, kept_pool, plain_tab}
use Rattle.ic_parts.specs.Book.{Book, core_of, notations_in, scene_in}

module _ (n : Notations) (before after : Scene) where
  -- a book with all formulas kept
  abbrev pub with_kept_pools : Book → Book
  with_kept_pools book = record book { sheets = map (kept_pool n before after) book.sheets; definitions = map (kept_in_body n before after same_keys) book.definitions }

-- a change of the sheets or the definitions of a book: all formulas are kept over it
abbrev pub book_changed_by : (Book → Book) → Book → Book
book_changed_by change book = change (with_kept_pools (notations_in book) (scene_in book) (scene_in (change book)) book)

-- the book with a new sheet at its end, which has the fresh id and no formulas
abbrev pub with_added_sheet : List ℕ → Book → Book
with_added_sheet name book = record book { sheets = book.sheets ++ record { id = greatest_id (core_of book) + 1; name = name; pool = []; grid = empty_grid; tab = plain_tab } ∷ [] }

-- with a new sheet put in at an index, which has this id and no formulas
abbrev pub with_inserted_sheet : ℕ → ℕ → List ℕ → Book → Book
with_inserted_sheet index id name book = record book { sheets = insert book.sheets index (record { id = id; name = name; pool = []; grid = empty_grid; tab = plain_tab }) }

-- with another name for the sheet at an index
abbrev pub with_renamed_sheet : ℕ → List ℕ → Book → Book
with_renamed_sheet index name book = record book { sheets = updated_at (λ s. record s { name = name }) index book.sheets }

-- without the sheet at an index
abbrev pub with_removed_sheet : ℕ → Book → Book
with_removed_sheet index book = record book { sheets = remove book.sheets index }

-- with the sheet at an index put at another
abbrev pub with_moved_sheet : ℕ → ℕ → Book → Book
with_moved_sheet from to book = record book { sheets = moved from to book.sheets }

-- with a new definition at its end
abbrev pub with_added_definition : Definition → Book → Book
with_added_definition definition book = record book { definitions = book.definitions ++ definition ∷ [] }

-- without the definition at an index; as it is where there is none
abbrev pub with_removed_definition : Option ℕ → Book → Book
with_removed_definition None book = book
with_removed_definition (Some index) book = record book { definitions = remove book.definitions index }

-- a book with each tree replaced by what a change makes of it
abbrev pub changed_book : Change → Book → Book
changed_book change book = record book { sheets = map (changed_pool change) book.sheets; definitions = map (with_body_tree (changed_tree change)) book.definitions }

-- in another locale, or another language
abbrev pub with_locale : List ℕ → Book → Book
with_locale id book = record book { locale = id }

abbrev pub with_language : List ℕ → Book → Book
with_language id book = record book { language = id }
