-- What writing a value into a cell does to a whole book, and what refuses it.
use Rattle.std.specs.Prelude.{◌≡◌, ◌<◌, ◌≤◌, ◌&&◌, ◌||◌, ℕ, ℤ, [], List, Bool, true, bytes_eq, chars, length, Option, Some, None, IfSome}
use Rattle.std.specs.List.{slice_get}
use Rattle.ic_laws.specs.Amount.{is_amount}
use Rattle.ic_laws.specs.CoreBook.{CellPlace}
use Rattle.ic_laws.specs.CoreStep.{updated_at}
use Rattle.ic_cells.specs.Cell.{cell_formula_index, style_of}
use Rattle.ic_cells.specs.Strings.{string_index, with_string}
use Rattle.ic_cells.specs.Style.{with_quote_prefix}
use Rattle.ic_cells.specs.declared.cell.Cell.{Cell}
use Rattle.ic_cells.specs.declared.cell.Cell.TheVariants as cells
use Rattle.ic_cells.specs.declared.style.Style.{Style}
use Rattle.ic_grid.specs.Shape.{celled, is_loose, shape_of}
use Rattle.ic_grid.specs.Style.{style_at}
use Rattle.ic_input.specs.Code.{is_date_code}
use Rattle.ic_input.specs.declared.input.Typed.{Typed}
use Rattle.ic_input.specs.declared.input.Typed.TheVariants as kinds
use Rattle.ic_machine.specs.Book as machine
use Rattle.ic_machine.specs.Book.{Stepped}
use Rattle.ic_machine.specs.Content.{BoolContent, Content, EmptyContent, ErrContent, NumContent, TextContent, content_of}
use Rattle.ic_machine.specs.Styling.{Numbered, restyled}
use Rattle.ic_machine.specs.subjects.Writing.{Written, coded, typed_written, unquoted, write_step}
use Rattle.ic_sheets.specs.Sheet.{Sheet, with_cell_in}
use Rattle.ic_parts.specs.Book.{Book, HasString}
use Rattle.ic_parts.specs.Whole.{whole_of}
pub use Rattle.ic_parts.specs.Written.{value_causes, value_refusal, value_refusal_in}
use Rattle.ic_parts.specs.declared.lists.Lists.{Lists}
use Rattle.ic_parts.specs.declared.values.Restyle.{Restyle}
use Rattle.ic_parts.specs.declared.values.Restyle.TheVariants as restyles
use Rattle.ic_parts.specs.declared.values.Value.{Value}
use Rattle.ic_parts.specs.declared.values.Value.TheVariants as values

-- the content of a value, by the number of its style
abbrev pub value_content : Value → ℕ → Content
value_content values.Empty = λ style. EmptyContent style
value_content (values.Boolean truth) = λ style. BoolContent truth style
value_content (values.Number amount) = λ style. NumContent amount style
value_content (values.Error e) = λ style. ErrContent e style
value_content (values.Text text) = λ style. TextContent (chars text.now) style

-- the number of a value, if it is one, is an amount
abbrev pub IsAmountValue : Value → Type 0
IsAmountValue (values.Number amount) = is_amount amount ≡ true
IsAmountValue value = Unit {0}

-- its cell where these are the shared strings, and the shared strings then
abbrev pub value_cell : List (List ℕ) → Value → ℕ → Cell
value_cell strings values.Empty = λ style. cells.EmptyCell style
value_cell strings (values.Boolean truth) = λ style. cells.BooleanCell truth style
value_cell strings (values.Number amount) = λ style. cells.NumberCell amount style
value_cell strings (values.Error e) = λ style. cells.ErrorCell e style
value_cell strings (values.Text text) = λ style. cells.SharedString (string_index (chars text.now) strings) style

abbrev pub value_strings : Value → List (List ℕ) → List (List ℕ)
value_strings (values.Text text) strings = with_string (chars text.now) strings
value_strings value strings = strings

-- the lists of a workbook with the shared strings and the styles that a value takes
abbrev pub with_put : Value → Numbered → Lists → Lists
with_put value styled lists = record { styles = styled.styles; strings = value_strings value lists.strings }

-- what becomes of the style that the place shows
abbrev pub style_change : Restyle → Style → Style
style_change restyles.Nothing = λ style. style
style_change (restyles.Quote quoted) = with_quote_prefix quoted
style_change (restyles.Code code) = λ style. unquoted (coded (Some (chars code.now)) style)

-- a style keeps its code where a number of a code is typed: it has that code, or both are codes of dates
abbrev pub keeps_code : List ℕ → Style → Bool
keeps_code code style = bytes_eq style.num_fmt code || (is_date_code code && is_date_code style.num_fmt)

-- A cell with any style may be written for a value: it is no part of an array of several cells, has no formula, its shared
-- string, if it is one, is one of so many, and its number, if it is one, an amount.
pub record IsValueCell (count : ℕ) (cell : ℕ → Cell) : Type 0 where
  pub loose : (style : ℕ) → is_loose (shape_of (cell style)) ≡ true
  pub style : (style : ℕ) → style_of (cell style) ≡ style
  pub formula : (style : ℕ) → cell_formula_index (cell style) ≡ None
  pub string : (style : ℕ) → HasString count (cell style)

-- each shared string stays where it is, and more may stand behind them
pub record IsLonger (before after : List (List ℕ)) : Type 0 where
  pub stays : (index : ℕ) → index < length before → slice_get after index ≡ slice_get before index
  pub longer : length before ≤ length after

-- what the machine writes for it: its content, and the style that the place shows is changed
abbrev pub content_written : (Style → Style) → (ℕ → Content) → machine.Sheet → Written
content_written change content sheet = record { content = content; change = change; pool = sheet.pool }

-- its step, at a row and a column of the sheet at an index
abbrev pub put_step : machine.Book → ℕ → ℤ → ℤ → (Style → Style) → (ℕ → Content) → Stepped machine.Book
put_step book index row column change content = write_step book index (row, column) (content_written change content) []

-- the same of a cell
abbrev pub value_step : Book → ℕ → ℤ → ℤ → (Style → Style) → (ℕ → Cell) → Stepped machine.Book
value_step book index row column change cell = put_step (whole_of book) index row column change (λ style. content_of book.strings (cell style))

-- the step of a typed text, by what it is
abbrev pub typed_step : machine.Book → ℕ → ℤ → ℤ → Typed → Stepped machine.Book
typed_step book index row column typed = write_step book index (row, column) (λ sheet. typed_written book sheet (row, column) typed) []

-- the formula that it is, if it is one; and what else it writes, and in which style
abbrev pub typed_formula : Typed → Option (List ℕ)
typed_formula (kinds.Formula text) = Some text
typed_formula typed = None

abbrev pub typed_content : Typed → ℕ → Content
typed_content kinds.Empty = λ style. EmptyContent style
typed_content (kinds.Quoted text) = λ style. TextContent text style
typed_content (kinds.Formula text) = λ style. EmptyContent style
typed_content (kinds.Number amount code) = λ style. NumContent amount style
typed_content (kinds.Boolean truth) = λ style. BoolContent truth style
typed_content (kinds.Error e) = λ style. ErrContent e style
typed_content (kinds.Text text) = λ style. TextContent text style

abbrev pub typed_change : Typed → Style → Style
typed_change kinds.Empty = λ style. style
typed_change (kinds.Quoted text) = with_quote_prefix true
typed_change (kinds.Number amount code) = λ style. unquoted (coded code style)
typed_change typed = unquoted

-- the number of the style that a place shows, and the style that is written
abbrev pub shown_style : Sheet → ℤ → ℤ → ℕ
shown_style s row column = style_at celled s.grid.cells s.grid.rows s.grid.columns (row, column)

abbrev pub changed_style : Book → Sheet → ℤ → ℤ → (Style → Style) → Numbered
changed_style book s row column change = restyled change (shown_style s row column) book.styles

-- a book with a cell at a place of the sheet at an index, in the style of a number, and with these styles
abbrev pub with_value : ℕ → CellPlace → (ℕ → Cell) → Numbered → Book → Book
with_value index place cell styled book =
    record book { sheets = updated_at (λ s. record s { grid = with_cell_in place (cell styled.number) s.grid }) index book.sheets; styles = styled.styles }

-- a place of the sheet at an index shows the style of this number
abbrev pub Shows : Book → ℕ → ℤ → ℤ → ℕ → Type 0
Shows book index row column number = IfSome (slice_get book.sheets index) (λ s. number ≡ shown_style s row column)
