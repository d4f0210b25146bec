-- The commands that read cells.
use Rattle.std.specs.Prelude.{ℕ, ℤ, pos, max, nat_abs, List, [], ◌∷◌, ◌++◌, flat_map, map, Bool, true, Some, is_none, option_to_list, slice_get, codes, if◌then◌else◌}
use Rattle.std.specs.FinMap as finite
use Rattle.std.specs.List.{enumerate_from, join_by, range_with_len}
use Rattle.std.specs.Option.{option_map_or}
use Rattle.ic_laws.specs.Character.{equals, line_feed}
use Rattle.ic_laws.specs.Command as core
use Rattle.ic_laws.specs.CoreBook.{CellPlace}
use Rattle.ic_laws.specs.CoreStep.{core_step}
use Rattle.ic_laws.specs.FormulaReading.{shown_formula}
use Rattle.ic_laws.specs.Greatest.{greatest}
use Rattle.ic_laws.specs.declared.tree.Formula.{Formula}
use Rattle.ic_cells.specs.Style.{style_at}
use Rattle.ic_cells.specs.declared.value.CellType.{CellType}
use Rattle.ic_cells.specs.declared.value.CellType.TheVariants as types
use Rattle.ic_cells.specs.declared.value.CellValue.{CellValue}
use Rattle.ic_cells.specs.declared.value.CellValue.TheVariants as values
use Rattle.ic_cells.specs.declared.value.SpillValue.{SpillValue}
use Rattle.ic_cells.specs.declared.value.SpillValue.TheVariants as spills
use Rattle.ic_grid.specs.Shape.{is_empty}
use Rattle.ic_machine.specs.Book.{Book, Entry, Sheet, Stepped, as_core, at_sheet, content_at, core_of, formula_held, notations_in, style_number_at, unless_refused}
use Rattle.ic_machine.specs.Content.{BoolContent, Content, EmptyContent, ErrContent, NumContent, SpillContent, TextContent, shape_of, style_of, type_of}
use Rattle.ic_machine.specs.InForce.{boolean_in, error_in, formatted_in, shown_number, shown_words, value_in}
use Rattle.ic_machine.specs.Parsed.{Parsed, parsed_reference}
use Rattle.ic_machine.specs.Refusal.{BadReference}
use Rattle.ic_machine.specs.Reply.{AmountField, BoolField, Field, NumberField, PositionField, TextField, bool_field, text_field}
use Rattle.ic_machine.specs.Row.{Row}
use Rattle.ic_machine.specs.Word.{OfIndex, OfPosition, OfText, words_of}

pub data Reading : Type 0 where
  GetCellFormula : (sheet : ℕ) (row column : ℤ) → Reading
  GetLocalizedCellContent : (sheet : ℕ) (row column : ℤ) → Reading
  GetFormattedCellValue : (sheet : ℕ) (row column : ℤ) → Reading
  GetCellValueByIndex : (sheet : ℕ) (row column : ℤ) → Reading
  GetCellValueByRef : (text : List ℕ) → Reading
  GetCellType : (sheet : ℕ) (row column : ℤ) → Reading
  IsEmptyCell : (sheet : ℕ) (row column : ℤ) → Reading
  GetAllCells : Reading
  GetSheetMarkup : (sheet : ℕ) → Reading

abbrev pub reading_rows : List (Row Reading)
reading_rows =
    record { name = codes "get_cell_formula"; words = words_of (OfIndex ∷ OfPosition ∷ OfPosition ∷ []); command = λ w. GetCellFormula w.0 w.1.0 w.1.1.0 }
    ∷ record { name = codes "get_localized_cell_content"; words = words_of (OfIndex ∷ OfPosition ∷ OfPosition ∷ []); command = λ w. GetLocalizedCellContent w.0 w.1.0 w.1.1.0 }
    ∷ record { name = codes "get_formatted_cell_value"; words = words_of (OfIndex ∷ OfPosition ∷ OfPosition ∷ []); command = λ w. GetFormattedCellValue w.0 w.1.0 w.1.1.0 }
    ∷ record { name = codes "get_cell_value_by_index"; words = words_of (OfIndex ∷ OfPosition ∷ OfPosition ∷ []); command = λ w. GetCellValueByIndex w.0 w.1.0 w.1.1.0 }
    ∷ record { name = codes "get_cell_value_by_ref"; words = words_of (OfText ∷ []); command = λ w. GetCellValueByRef w.0 }
    ∷ record { name = codes "get_cell_type"; words = words_of (OfIndex ∷ OfPosition ∷ OfPosition ∷ []); command = λ w. GetCellType w.0 w.1.0 w.1.1.0 }
    ∷ record { name = codes "is_empty_cell"; words = words_of (OfIndex ∷ OfPosition ∷ OfPosition ∷ []); command = λ w. IsEmptyCell w.0 w.1.0 w.1.1.0 }
    ∷ record { name = codes "get_all_cells"; words = words_of []; command = λ w. GetAllCells }
    ∷ record { name = codes "get_sheet_markup"; words = words_of (OfIndex ∷ []); command = λ w. GetSheetMarkup w.0 } ∷ []

-- a reader of a sheet answers these fields ----

abbrev pub read_sheet : Book → ℕ → (Sheet → List Field) → Stepped Book
read_sheet book index fields = at_sheet book index (λ sheet. unless_refused [] book (fields sheet))

-- a formula as it is shown in a cell, with its equals sign
abbrev pub formula_text : Book → CellPlace → Formula → List ℕ
formula_text book place formula = equals ∷ shown_formula (notations_in book) (core_of book) place.0 place.1 formula

unfoldable pub cell_formula_step : ℕ → CellPlace → Book → Stepped Book
cell_formula_step index place book = as_core (core_step (notations_in book) (core_of book) (core.GetCellFormula index place.0 place.1)) book

-- shown content: a formula with its equals sign; a value so that, typed again, it is the same ----

abbrev pub format_of : Book → Content → List ℕ
format_of book content = (style_at book.styles (style_of content)).num_fmt

abbrev pub shown_spill : Book → List ℕ → SpillValue → List ℕ
shown_spill book code (spills.Boolean truth) = boolean_in book truth
shown_spill book code (spills.Number amount) = shown_number book code amount
shown_spill book code (spills.Text text) = shown_words book text
shown_spill book code (spills.Error e) = error_in book e

abbrev pub shown_content : Book → Sheet → CellPlace → Content → List ℕ
shown_content book sheet place (EmptyContent style) = []
shown_content book sheet place (BoolContent truth style) = boolean_in book truth
shown_content book sheet place (NumContent amount style) = shown_number book (format_of book (NumContent amount style)) amount
shown_content book sheet place (ErrContent e style) = error_in book e
shown_content book sheet place (TextContent text style) = shown_words book text
shown_content book sheet place (SpillContent anchor value style) = shown_spill book (format_of book (SpillContent anchor value style)) value
shown_content book sheet place content = option_map_or (formula_text book place) (formula_held sheet content) []

unfoldable pub content_step : ℕ → CellPlace → Book → Stepped Book
content_step index place book =
    read_sheet book index (λ sheet. text_field (option_map_or (shown_content book sheet place) (content_at sheet place.0 place.1) []))

-- formatted values: a number by its code ----

abbrev pub formatted_value : Book → List ℕ → CellValue → List ℕ
formatted_value book code values.None = []
formatted_value book code (values.String text) = text
formatted_value book code (values.Number amount) = formatted_in book code amount
formatted_value book code (values.Boolean truth) = boolean_in book truth

abbrev pub formatted_content : Book → Content → List ℕ
formatted_content book content = formatted_value book (format_of book content) (value_in book content)

unfoldable pub formatted_step : ℕ → CellPlace → Book → Stepped Book
formatted_step index place book =
    read_sheet book index (λ sheet. text_field (option_map_or (formatted_content book) (content_at sheet place.0 place.1) []))

-- values and types ----

abbrev pub value_fields : CellValue → List Field
value_fields values.None = TextField (codes "none") ∷ []
value_fields (values.String text) = TextField (codes "string") ∷ TextField text ∷ []
value_fields (values.Number amount) = TextField (codes "number") ∷ AmountField amount ∷ []
value_fields (values.Boolean truth) = TextField (codes "boolean") ∷ BoolField truth ∷ []

-- a place that holds nothing has no value
abbrev pub value_at : Book → Sheet → CellPlace → CellValue
value_at book sheet place = option_map_or (value_in book) (content_at sheet place.0 place.1) values.None

unfoldable pub value_step : ℕ → CellPlace → Book → Stepped Book
value_step index place book = read_sheet book index (λ sheet. value_fields (value_at book sheet place))

abbrev pub value_of_parsed : Book → Parsed → List Field
value_of_parsed book parsed =
    flat_map (λ (sheet : Sheet). value_fields (value_at book sheet (parsed.row, parsed.column))) (option_to_list (slice_get book.sheets parsed.sheet))

unfoldable pub value_by_ref_step : List ℕ → Book → Stepped Book
value_by_ref_step text book =
    unless_refused ((is_none (parsed_reference (core_of book) text), BadReference) ∷ []) book
    (option_map_or (value_of_parsed book) (parsed_reference (core_of book) text) [])

abbrev pub type_name : CellType → List ℕ
type_name types.Number = codes "Number"
type_name types.Text = codes "Text"
type_name types.LogicalValue = codes "LogicalValue"
type_name types.ErrorValue = codes "ErrorValue"

unfoldable pub type_step : ℕ → CellPlace → Book → Stepped Book
type_step index place book =
    read_sheet book index (λ sheet. text_field (type_name (option_map_or type_of (content_at sheet place.0 place.1) types.Number)))

-- a place is empty that holds nothing, or nothing but a style
unfoldable pub empty_step : ℕ → CellPlace → Book → Stepped Book
empty_step index place book =
    read_sheet book index (λ sheet. bool_field (option_map_or (λ content. is_empty (shape_of content)) (content_at sheet place.0 place.1) true))

-- all places that hold something, by sheets, rows and columns ----

abbrev pub place_fields : ℕ → Entry → List Field
place_fields index entry = NumberField (Some index) ∷ PositionField entry.0.0 ∷ PositionField entry.0.1 ∷ []

abbrev pub sheet_places : ℕ × Sheet → List Field
sheet_places sheet = flat_map (place_fields sheet.0) (finite.entries sheet.1.grid.contents)

unfoldable pub all_cells_step : Book → Stepped Book
all_cells_step book = unless_refused [] book (flat_map sheet_places (enumerate_from 0 book.sheets))

-- a sheet as a table ----

-- the greatest row and column that hold something, and 1 where none does
abbrev pub last_row : List Entry → ℕ
last_row entries = max 1 (greatest (map (λ entry. nat_abs entry.0.0) entries))

abbrev pub last_column : List Entry → ℕ
last_column entries = max 1 (greatest (map (λ entry. nat_abs entry.0.1) entries))

-- a cell is its formula, else its formatted value
abbrev pub content_markup : Book → Sheet → CellPlace → Content → List ℕ
content_markup book sheet place content = option_map_or (formula_text book place) (formula_held sheet content) (formatted_content book content)

abbrev pub is_bold : Book → Sheet → CellPlace → Bool
is_bold book sheet place = (style_at book.styles (style_number_at sheet.grid place.0 place.1)).bold

-- between two pairs of stars where its style is bold
abbrev pub emphasized : Bool → List ℕ → List ℕ
emphasized bold text = if bold then codes "**" ++ (text ++ codes "**") else text

abbrev pub cell_markup : Book → Sheet → CellPlace → List ℕ
cell_markup book sheet place =
    emphasized (is_bold book sheet place) (option_map_or (content_markup book sheet place) (content_at sheet place.0 place.1) [])

-- the cells of a row with bars between them, and the rows with line feeds
abbrev pub row_markup : Book → Sheet → ℕ → ℕ → List ℕ
row_markup book sheet columns row = join_by (λ column. cell_markup book sheet (pos row, pos column)) (codes "|") (range_with_len 1 columns)

abbrev pub sheet_markup : Book → Sheet → List ℕ
sheet_markup book sheet =
    join_by (row_markup book sheet (last_column (finite.entries sheet.grid.contents))) (line_feed ∷ []) (range_with_len 1 (last_row (finite.entries sheet.grid.contents)))

unfoldable pub markup_step : ℕ → Book → Stepped Book
markup_step index book = read_sheet book index (λ sheet. text_field (sheet_markup book sheet))

abbrev pub reading_step : Book → Reading → Stepped Book
reading_step book (GetCellFormula sheet row column) = cell_formula_step sheet (row, column) book
reading_step book (GetLocalizedCellContent sheet row column) = content_step sheet (row, column) book
reading_step book (GetFormattedCellValue sheet row column) = formatted_step sheet (row, column) book
reading_step book (GetCellValueByIndex sheet row column) = value_step sheet (row, column) book
reading_step book (GetCellValueByRef text) = value_by_ref_step text book
reading_step book (GetCellType sheet row column) = type_step sheet (row, column) book
reading_step book (IsEmptyCell sheet row column) = empty_step sheet (row, column) book
reading_step book GetAllCells = all_cells_step book
reading_step book (GetSheetMarkup sheet) = markup_step sheet book
