-- The commands that write a formula out for another cell, and the one that reads the name of a cell.
use Rattle.std.specs.Prelude.{ℕ, ℤ, List, [], ◌∷◌, Bool, false, not, Option, Some, None, is_none, option_map, slice_get, codes}
use Rattle.std.specs.Option.{option_map_or, option_or}
use Rattle.ic_laws.specs.Binding.{bound, spelled}
use Rattle.ic_laws.specs.Character.{equals}
use Rattle.ic_laws.specs.CoreBook.{CellPlace}
use Rattle.ic_laws.specs.FormulaReading.{shown_at}
use Rattle.ic_laws.specs.Notations.{english, english_function}
use Rattle.ic_laws.specs.Position.{is_column, is_row}
use Rattle.ic_laws.specs.ReadAs.{read_as}
use Rattle.ic_laws.specs.Reading.{printed}
use Rattle.ic_laws.specs.Tree.{Spelled}
use Rattle.ic_cells.specs.Value.{shown_text}
use Rattle.ic_machine.specs.Book.{Book, Sheet, Stepped, at_sheet, content_at, core_of, formula_held, lacks_sheet, notations_in, scene_in, unless_refused}
use Rattle.ic_machine.specs.Content.{Content, value_of}
use Rattle.ic_machine.specs.InForce.{by_notation, decimal_in, formula_typed, in_force}
use Rattle.ic_machine.specs.Parsed.{Parsed, parsed_reference}
use Rattle.ic_machine.specs.Refusal.{Causes, InvalidColumn, InvalidFormula, InvalidRow, InvalidSheet}
use Rattle.ic_machine.specs.Reply.{Field, NumberField, PositionField, text_field}
use Rattle.ic_machine.specs.Row.{Row}
use Rattle.ic_machine.specs.Word.{OfIndex, OfPosition, OfText, words_of}
use Rattle.ic_machine.specs.subjects.Reading.{formula_text}

-- a cell of the sheet at an index
pub record CellOf : Type 0 where
  pub sheet : ℕ
  pub row : ℤ
  pub column : ℤ

abbrev pub cell_of : ℕ → ℤ → ℤ → CellOf
cell_of sheet row column = record { sheet = sheet; row = row; column = column }

pub data Extending : Type 0 where
  ExtendTo : (source : CellOf) (row column : ℤ) → Extending
  ExtendCopiedValue : (text : List ℕ) (source target : CellOf) → Extending
  ParseReference : (text : List ℕ) → Extending

abbrev pub extending_rows : List (Row Extending)
extending_rows =
    record { name = codes "extend_to"; words = words_of (OfIndex ∷ OfPosition ∷ OfPosition ∷ OfPosition ∷ OfPosition ∷ []); command = λ w. ExtendTo (cell_of w.0 w.1.0 w.1.1.0) w.1.1.1.0 w.1.1.1.1.0 }
    ∷ record { name = codes "extend_copied_value"; words = words_of (OfText ∷ OfIndex ∷ OfPosition ∷ OfPosition ∷ OfIndex ∷ OfPosition ∷ OfPosition ∷ []); command = λ w. ExtendCopiedValue w.0 (cell_of w.1.0 w.1.1.0 w.1.1.1.0) (cell_of w.1.1.1.1.0 w.1.1.1.1.1.0 w.1.1.1.1.1.1.0) }
    ∷ record { name = codes "parse_reference"; words = words_of (OfText ∷ []); command = λ w. ParseReference w.0 } ∷ []

-- a cell in another: its formula as it is shown there, with the word for a lost reference where one leaves the sheet; the
-- text of its value, where it has no formula; and nothing, where there is no cell ----

abbrev pub localized_text : Book → Content → List ℕ
localized_text book content = by_notation [] (λ f. shown_text (decimal_in book) f.language (value_of f.language content)) (in_force book)

abbrev pub extended : Book → Sheet → CellPlace → Content → List ℕ
extended book sheet target content = option_map_or (formula_text book target) (formula_held sheet content) (localized_text book content)

unfoldable pub extend_step : CellOf → CellPlace → Book → Stepped Book
extend_step source target book =
    at_sheet book source.sheet
    (λ sheet. unless_refused [] book (text_field (option_map_or (extended book sheet target) (content_at sheet source.row source.column) [])))

-- a text that was copied from a cell: a formula is read there, in the notation in force or else in English, and written
-- for the other cell; another text stays ----

module _ (book : Book) (source target : CellOf) where
  abbrev pub copied_tree : List ℕ → Option Spelled
  copied_tree text =
      option_or (read_as (shown_at (notations_in book) (core_of book) source.row source.column) text)
      (read_as ((notations_in book).shown english english source.row source.column) text)

  -- the id of the source's sheet
  abbrev pub source_id : Option ℕ
  source_id = option_map (λ (sheet : Sheet). sheet.id) (slice_get book.sheets source.sheet)

  abbrev pub tree_extended : Spelled → List ℕ
  tree_extended t =
      equals ∷ printed (shown_at (notations_in book) (core_of book) target.row target.column)
      (spelled (scene_in book) (bound (english_function (notations_in book)) (scene_in book) source_id t))

  abbrev pub copied_text : List ℕ → Option (List ℕ) → List ℕ
  copied_text text None = text
  copied_text text (Some formula) = option_map_or tree_extended (copied_tree formula) []

  -- the text has a formula that reads in neither notation
  abbrev pub reads_not : Option (List ℕ) → Bool
  reads_not None = false
  reads_not (Some formula) = is_none (copied_tree formula)

  abbrev pub copied_causes : List ℕ → Causes
  copied_causes text =
      (lacks_sheet book source.sheet, InvalidSheet) ∷ (lacks_sheet book target.sheet, InvalidSheet) ∷ (not (is_row source.row), InvalidRow)
      ∷ (not (is_row target.row), InvalidRow) ∷ (not (is_column source.column), InvalidColumn) ∷ (not (is_column target.column), InvalidColumn)
      ∷ (reads_not (formula_typed book text), InvalidFormula) ∷ []

unfoldable pub extend_copied_step : List ℕ → CellOf → CellOf → Book → Stepped Book
extend_copied_step text source target book =
    unless_refused (copied_causes book source target text) book (text_field (copied_text book source target text (formula_typed book text)))

-- the name of a cell ----

abbrev pub parsed_fields : Parsed → List Field
parsed_fields parsed = NumberField (Some parsed.sheet) ∷ PositionField parsed.row ∷ PositionField parsed.column ∷ []

unfoldable pub parse_step : List ℕ → Book → Stepped Book
parse_step text book = unless_refused [] book (option_map_or parsed_fields (parsed_reference (core_of book) text) [])

abbrev pub extending_step : Book → Extending → Stepped Book
extending_step book (ExtendTo source row column) = extend_step source (row, column) book
extending_step book (ExtendCopiedValue text source target) = extend_copied_step text source target book
extending_step book (ParseReference text) = parse_step text book
