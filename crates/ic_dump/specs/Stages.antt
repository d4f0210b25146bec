-- What the lines of each stage leave: from the new book, the sheets as they stand, which hold nothing, then definitions with a body
-- that mentions nothing, then with their own, then without the passing sheets, then the formulas of the cells.
use Rattle.std.specs.Prelude.{◌≡◌, ◌⊎◌, ℕ, pos, ◌+◌, ◌<◌, ◌^◌, List, [], ◌∷◌, codes, false, filter, length, map, None}
use Rattle.ic_laws.specs.CoreBook.{CoreBook, Definition, scene_of}
use Rattle.ic_laws.specs.FormulaReading.{cell_formula}
use Rattle.ic_laws.specs.Notations.{Notations, english}
use Rattle.ic_laws.specs.declared.scene.SheetName.{SheetName}
use Rattle.ic_laws.specs.declared.tree.Formula.{Formula}
use Rattle.ic_machine.specs.Book.{Book, Sheet, core_of, empty_sheet, notations_in}
use Rattle.ic_machine.specs.Command.{commands}
use Rattle.ic_machine.specs.Run.{after}
use Rattle.ic_machine.specs.Step.{machine}
use Rattle.ic_machine.specs.TranslationLaws.{AreAccepted, ErrorsEndPlain}
use Rattle.ic_machine.specs.Valid.{IsValidBook}
use Rattle.ic_dump.specs.Lines.{body_lines, cell_lines, defining_lines, deleting_lines, first_id, in_english, inserting_lines, is_first, naming_lines, plain_body}
use Rattle.ic_dump.specs.Passing.{passing_ids, standing_sheets, taken_names}
use Rattle.ic_dump.specs.Refused.{cause_of}

-- The books between the stages. ----

-- a sheet that holds nothing
abbrev pub bare_sheet : SheetName → Sheet
bare_sheet s = empty_sheet s.id s.name

-- a book with such sheets, and these definitions; all else is as it is
abbrev pub with_bare : List SheetName → List Definition → Book → Book
with_bare sheets definitions start = record start { sheets = map bare_sheet sheets; definitions = definitions }

-- what is kept of the body that mentions nothing
abbrev pub plain_formula : Notations → Formula
plain_formula n = cell_formula n (record { sheets = []; definitions = []; locale = english; language = english }) 0 (pos 1) (pos 1) plain_body

abbrev pub plain_definition : Notations → Definition → Definition
plain_definition n d = record d { has_equals = false; body = plain_formula n }

-- the one sheet of a new book
abbrev pub first_sheet : SheetName
first_sheet = record { id = first_id; name = codes "Sheet1" }

-- each is told by the book that is rebuilt, and by the one that it begins with
abbrev pub book_started : Book → Book → Book
book_started book start = with_bare (first_sheet ∷ []) [] start

abbrev pub book_named : Book → Book → Book
book_named book start = with_bare (filter is_first (standing_sheets (core_of book))) [] start

abbrev pub book_inserted : Book → Book → Book
book_inserted book start = with_bare (standing_sheets (core_of book)) [] start

abbrev pub book_defined : Book → Book → Book
book_defined book start = with_bare (standing_sheets (core_of book)) (map (plain_definition (notations_in book)) book.definitions) start

abbrev pub book_embodied : Book → Book → Book
book_embodied book start = with_bare (standing_sheets (core_of book)) book.definitions start

abbrev pub book_deleted : Book → Book → Book
book_deleted book start = with_bare (scene_of (core_of book)).sheets book.definitions start

-- What each stage promises. ----

-- the numerals that are tried for so many names are below 2 ^ 64, where any are
abbrev pub HasNumerals : ℕ → List (List ℕ) → Type 0
HasNumerals count taken = (count ≡ 0) ⊎ (count + length taken < 2 ^ 64)

-- so are those for passing sheets
abbrev pub HasFewNames : CoreBook → Type 0
HasFewNames core = HasNumerals (length (passing_ids core)) (taken_names core)

-- A valid book has lines, and the one that it is rebuilt from is English, has the same tables, and none of the English words for
-- error values ends with a blank. An update drops the blanks at both ends of the body that it is given, and so that of such a word.
pub record IsRebuilt (book start : Book) : Type 0 where
  pub valid : IsValidBook book
  pub none : cause_of (notations_in book) (core_of book) ≡ None
  pub few : HasFewNames (core_of book)
  pub tables : start.tables ≡ book.tables
  pub locale : start.locale ≡ english
  pub language : start.language ≡ english
  pub errors : ErrorsEndPlain start

-- each line is accepted in its turn, and they leave this book, which is valid
pub record Leads (old : Book) (lines : List (List ℕ)) (new : Book) : Type 0 where
  pub accepted : AreAccepted old lines
  pub left : after (machine commands) old lines ≡ new
  pub valid : IsValidBook new

abbrev pub LeadsOver : (Book → Book → Book) → (Book → List (List ℕ)) → (Book → Book → Book) → Type 0
LeadsOver old lines new = (book start : Book) → IsRebuilt book start → IsValidBook (old book start) → Leads (old book start) (lines book) (new book start)

abbrev pub NamesFirst : Type 0
NamesFirst = LeadsOver book_started (λ book. naming_lines (core_of book)) book_named

abbrev pub InsertsOthers : Type 0
InsertsOthers = LeadsOver book_named (λ book. inserting_lines (core_of book)) book_inserted

abbrev pub Defines : Type 0
Defines = LeadsOver book_inserted (λ book. defining_lines (core_of book)) book_defined

abbrev pub SetsBodies : Type 0
SetsBodies = LeadsOver book_defined (λ book. body_lines (notations_in book) (core_of book)) book_embodied

abbrev pub DeletesPassing : Type 0
DeletesPassing = LeadsOver book_embodied (λ book. deleting_lines (core_of book)) book_deleted

-- The cells come last. What they leave is told by its core: the pools, the styles and the values are the book's own.
pub record Fills (old : Book) (lines : List (List ℕ)) (new : CoreBook) : Type 0 where
  pub accepted : AreAccepted old lines
  pub core : core_of (after (machine commands) old lines) ≡ new

abbrev pub WritesCells : Type 0
WritesCells =
    (book start : Book) → IsRebuilt book start → IsValidBook (book_deleted book start)
    → Fills (book_deleted book start) (cell_lines (notations_in book) (core_of book)) (in_english (core_of book))
