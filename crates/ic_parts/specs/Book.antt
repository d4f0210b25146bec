-- The whole book, how the machine sees it, and what always holds of it.
use Rattle.std.specs.Prelude.{◌≡◌, ◌<◌, ℕ, Bool, List, [], ◌∷◌, ◌++◌, length, map, true, not, Option, Some, is_none, codes}
use Rattle.std.specs.FinMap as finite
use Rattle.std.specs.List.{AllByRecursion}
use Rattle.ic_tables.specs.Tables.{TableSet, language_of, locale_of, lists_zone}
use Rattle.ic_laws.specs.Amount.{is_amount}
use Rattle.ic_laws.specs.CoreBook.{CellPlace, CoreBook, Definition, scene_of}
use Rattle.ic_laws.specs.Notations.{Notations}
use Rattle.ic_laws.specs.Refusal.{Refusal, InvalidLocale, InvalidLanguage, InvalidTimezone, first_refusal}
use Rattle.ic_laws.specs.declared.scene.Scene.{Scene}
use Rattle.ic_tree.specs.Notations.{notations_of}
use Rattle.ic_cells.specs.Style.{default_style}
use Rattle.ic_cells.specs.declared.cell.Cell.{Cell}
use Rattle.ic_cells.specs.declared.cell.Cell.TheVariants as cells
use Rattle.ic_cells.specs.declared.style.Style.{Style}
use Rattle.ic_cells.specs.declared.workbook.Metadata.{Metadata}
use Rattle.ic_grid.specs.declared.grid.Grid.{Grid}
use Rattle.ic_machine.specs.Alike.{seen_by}
use Rattle.ic_machine.specs.Book as machine
use Rattle.ic_machine.specs.Content.{content_of}
use Rattle.ic_machine.specs.Valid as valid
use Rattle.ic_machine.specs.subjects.Sheets.{base_name}
use Rattle.ic_sheets.specs.Sheet.{Sheet, empty_grid, plain_tab, sheet_core}
use Rattle.ic_sheets.specs.declared.tab.Tab.{Tab}

-- a book: its name, its sheets and its definitions in their order, the ids of the locale and the language in force, the
-- zone, the name of the theme, who made it, with what and when, its styles and its shared strings, each by number, and the tables that it
-- borrows
pub record Book : Type 0 where
  pub name : List ℕ
  pub sheets : List Sheet
  pub definitions : List Definition
  pub locale : List ℕ
  pub language : List ℕ
  pub zone : List ℕ
  pub theme : List ℕ
  pub metadata : Metadata
  pub styles : List Style
  pub strings : List (List ℕ)
  pub tables : TableSet

-- The whole book, as the machine has it. ----

-- how a sheet is presented
abbrev pub whole_tab : Tab → machine.Tab
whole_tab tab = record {
  state = tab.state;
  color = tab.color;
  frozen_rows = tab.frozen_rows;
  frozen_columns = tab.frozen_columns;
  shows_grid_lines = tab.shows_grid_lines;
}

-- what the places of a sheet hold, by the shared strings; its rows, columns and merged cells are as they are
abbrev pub whole_grid : List (List ℕ) → Grid → machine.Grid
whole_grid strings grid = record { contents = seen_by (content_of strings) grid.cells; rows = grid.rows; columns = grid.columns; merges = grid.merged_cells }

abbrev pub whole_sheet : List (List ℕ) → Sheet → machine.Sheet
whole_sheet strings sheet = record { id = sheet.id; name = sheet.name; pool = sheet.pool; grid = whole_grid strings sheet.grid; tab = whole_tab sheet.tab }

-- who makes a new workbook, and with what
abbrev pub application : List ℕ
application = codes "IronCalc Sheets"

abbrev pub app_version : List ℕ
app_version = codes "10.0000"

abbrev pub user : List ℕ
user = codes "IronCalc User"

-- the metadata of a workbook that was made at this moment
abbrev pub metadata_made : List ℕ → Metadata
metadata_made created = record {
  application = application;
  app_version = app_version;
  creator = user;
  last_modified_by = user;
  created = created;
  last_modified = created;
}

abbrev pub whole_of : Book → machine.Book
whole_of book = record {
  sheets = map (whole_sheet book.strings) book.sheets;
  definitions = book.definitions;
  locale = book.locale;
  language = book.language;
  zone = book.zone;
  styles = book.styles;
  theme = book.theme;
  name = book.name;
  metadata = book.metadata;
  tables = book.tables;
}

-- Its core, and what its formulas can mention. ----

-- the core of a book
abbrev pub core_of : Book → CoreBook
core_of book = record { sheets = map sheet_core book.sheets; definitions = book.definitions; locale = book.locale; language = book.language }

-- what the machine is told of the tables of a book
abbrev pub notations_in : Book → Notations
notations_in book = notations_of book.tables

-- what the formulas of a book can mention
abbrev pub scene_in : Book → Scene
scene_in book = scene_of (core_of book)

-- What always holds of a book. ----

-- the shared string of a cell, if it is one, is one of so many, and its number, if it is one, is an amount
abbrev pub HasString : ℕ → Cell → Type 0
HasString count (cells.SharedString index style) = index < count
HasString count (cells.NumberCell amount style) = is_amount amount ≡ true
HasString count cell = Unit {0}

abbrev pub HasStrings : ℕ → Grid → Type 0
HasStrings count grid = (place : CellPlace) (cell : Cell) → finite.get grid.cells place ≡ Some cell → HasString count cell

-- what always holds of its whole book, and that each shared string of a cell is one of the book's, each number an amount
pub record IsValidBook (book : Book) : Type 0 where
  pub whole : valid.IsValidBook (whole_of book)
  pub strings : AllByRecursion (λ (sheet : Sheet). HasStrings (length book.strings) sheet.grid) book.sheets

-- what contracts see of the notation in force: the tables, and the ids of the locale and the language
pub record NotationState : Type 0 where
  pub tables : TableSet
  pub locale : List ℕ
  pub language : List ℕ

-- what contracts see of a model: the book, and for each sheet whether the look-up of its formulas has all of them
pub record ModelState : Type 0 where
  pub book : Book
  pub has_all : List Bool

-- the name of a new book's one sheet
abbrev pub first_sheet_name_in : List ℕ → List ℕ
first_sheet_name_in language = base_name language ++ codes "1"

-- a new book: one sheet, which has the id 1 and the number 1 in its name, a theme without a name, and the default style
abbrev pub new_book : List ℕ → List ℕ → List ℕ → List ℕ → List ℕ → TableSet → Book
new_book name locale zone language created tables = record {
  name = name;
  sheets = record { id = 1; name = first_sheet_name_in language; pool = []; grid = empty_grid; tab = plain_tab } ∷ [];
  definitions = [];
  locale = locale;
  language = language;
  zone = zone;
  theme = [];
  metadata = metadata_made created;
  styles = default_style ∷ [];
  strings = [];
  tables = tables;
}

-- what refuses a new book
abbrev pub new_book_refusal : List ℕ → List ℕ → List ℕ → TableSet → Option Refusal
new_book_refusal locale zone language tables =
    first_refusal
    ((not (lists_zone tables zone), InvalidTimezone) ∷ (is_none (locale_of tables locale), InvalidLocale)
    ∷ (is_none (language_of tables language), InvalidLanguage) ∷ [])

-- two books are the same beside their cores and the formulas that their sheets keep
pub record IsSameBeside (old new : Book) : Type 0 where
  pub name : new.name ≡ old.name
  pub zone : new.zone ≡ old.zone
  pub theme : new.theme ≡ old.theme
  pub metadata : new.metadata ≡ old.metadata
  pub tables : new.tables ≡ old.tables

-- A book is stepped to this core: that is what it has, and beside it all is as it was.
pub record StepsTo (old new : Book) (left : CoreBook) : Type 0 where
  pub core : core_of new ≡ left
  pub beside : IsSameBeside old new
