-- What cells show, as a model has them: so that it can be typed again, and by their formats.
use Rattle.std.specs.Prelude.{◌≡◌, ◌&&◌, ℕ, ℤ, List, [], Option, Some, None, if◌then◌else◌}
use Rattle.std.specs.List.{slice_get}
use Rattle.std.specs.Option.{option_map_or}
use Rattle.ic_laws.specs.CoreBook.{CellPlace}
use Rattle.ic_tables.specs.Formats.{decimal_separator}
use Rattle.ic_cells.specs.Cell.{string_at, style_of, value_of}
use Rattle.ic_cells.specs.Style.{style_at}
use Rattle.ic_cells.specs.Value.{shown_text}
use Rattle.ic_cells.specs.declared.cell.Cell.{Cell}
use Rattle.ic_cells.specs.declared.cell.Cell.TheVariants as cells
use Rattle.ic_cells.specs.declared.value.FormulaValue.{FormulaValue}
use Rattle.ic_cells.specs.declared.value.FormulaValue.TheVariants as formulas
use Rattle.ic_cells.specs.declared.value.SpillValue.{SpillValue}
use Rattle.ic_cells.specs.declared.value.SpillValue.TheVariants as spills
use Rattle.ic_input.specs.Code.{is_date_code}
use Rattle.ic_machine.specs.Book as machine
use Rattle.ic_machine.specs.Book.{content_at}
use Rattle.ic_machine.specs.InForce.{by_notation, formatted_in, in_force, is_number, shown_number, shown_words, typed_in}
use Rattle.ic_machine.specs.subjects.Reading.{formatted_content, shown_content}
use Rattle.ic_sheets.specs.Sheet.{Sheet}
use Rattle.ic_parts.specs.Book.{Book}
use Rattle.ic_parts.specs.Whole.{whole_of, whole_sheet}

-- a sheet stands in a book
abbrev pub StandsIn : Sheet → Book → Type 0
StandsIn s book = (index : ℕ) × (slice_get book.sheets index ≡ Some s)

-- the text that a cell without a formula keeps, by the shared strings
abbrev pub spill_text : SpillValue → Option (List ℕ)
spill_text (spills.Text text) = Some text
spill_text value = None

abbrev pub text_kept : List (List ℕ) → Cell → Option (List ℕ)
text_kept strings (cells.SharedString index s) = Some (string_at strings index)
text_kept strings (cells.SpillCell s a value) = spill_text value
text_kept strings cell = None

-- the number that a cell's value is
abbrev pub formula_number : FormulaValue → Option ℤ
formula_number (formulas.Number amount) = Some amount
formula_number value = None

abbrev pub spill_number : SpillValue → Option ℤ
spill_number (spills.Number amount) = Some amount
spill_number value = None

abbrev pub number_kept : Cell → Option ℤ
number_kept (cells.NumberCell amount s) = Some amount
number_kept (cells.CellFormula f s value) = formula_number value
number_kept (cells.ArrayFormula kind f s r value) = formula_number value
number_kept (cells.SpillCell s a value) = spill_number value
number_kept cell = None

-- the code of the style of a number
abbrev pub code_at : Book → ℕ → List ℕ
code_at book number = (style_at book.styles number).num_fmt

-- the text of a cell's value by the decimal separator and the words in force
abbrev pub localized : Book → Cell → List ℕ
localized book cell =
    by_notation [] (λ f. shown_text (decimal_separator f.locale) f.language (value_of book.strings f.language cell)) (in_force (whole_of book))

-- a number by a code of dates, where that, typed, is the number
abbrev pub date_shown : machine.Book → List ℕ → ℤ → Option (List ℕ)
date_shown whole code amount =
    if is_date_code code && is_number amount (typed_in whole (formatted_in whole code amount)) then Some (formatted_in whole code amount) else None

-- a number by a cell's code, or another value's text
abbrev pub number_or : (ℤ → List ℕ) → List ℕ → Option ℤ → List ℕ
number_or number text None = text
number_or number text (Some amount) = number amount

abbrev pub words_or : (List ℕ → List ℕ) → List ℕ → Option (List ℕ) → List ℕ
words_or words other None = other
words_or words other (Some text) = words text

-- what is shown of a cell without a formula
abbrev pub value_shown : Book → Cell → List ℕ
value_shown book cell =
    words_or (shown_words (whole_of book)) (number_or (shown_number (whole_of book) (code_at book (style_of cell))) (localized book cell) (number_kept cell))
    (text_kept book.strings cell)

-- a cell by its format
abbrev pub cell_formatted : Book → Cell → List ℕ
cell_formatted book cell = number_or (formatted_in (whole_of book) (code_at book (style_of cell))) (localized book cell) (number_kept cell)

-- what the machine shows of a place of a sheet
abbrev pub content_shown : Book → Sheet → CellPlace → List ℕ
content_shown book s place =
    option_map_or (shown_content (whole_of book) (whole_sheet book.strings s) place) (content_at (whole_sheet book.strings s) place.0 place.1) []

abbrev pub content_formatted : Book → Sheet → CellPlace → List ℕ
content_formatted book s place = option_map_or (formatted_content (whole_of book)) (content_at (whole_sheet book.strings s) place.0 place.1) []
