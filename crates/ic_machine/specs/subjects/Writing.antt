-- The commands that write a cell: what a text that is typed, or a value that is given, puts there, and in which style.
use Rattle.std.specs.Prelude.{ℕ, ℤ, pos, List, [], ◌∷◌, ◌++◌, Bool, true, false, not, ◌&&◌, Option, Some, None, is_none, unwrap_or, codes, if◌then◌else◌}
use Rattle.ic_laws.specs.CoreBook.{CellPlace}
use Rattle.ic_laws.specs.FormulaReading.{cell_formula}
use Rattle.ic_laws.specs.Position.{is_column, is_row}
use Rattle.ic_laws.specs.declared.tree.Formula.{Formula}
use Rattle.ic_tables.specs.declared.language.FunctionKind.{FunctionKind}
use Rattle.ic_cells.specs.Style.{with_format, with_quote_prefix}
use Rattle.ic_cells.specs.declared.cell.ArrayKind.TheVariants as arrays
use Rattle.ic_cells.specs.declared.style.Style.{Style}
use Rattle.ic_cells.specs.declared.value.FormulaValue.TheVariants as fvalues
use Rattle.ic_input.specs.Code.{is_date_code}
use Rattle.ic_input.specs.Typed.{needs_quoting}
use Rattle.ic_input.specs.declared.input.Typed.{Typed}
use Rattle.ic_input.specs.declared.input.Typed.TheVariants as kinds
use Rattle.ic_grid.specs.Arrays.{is_fixed_at}
use Rattle.ic_grid.specs.Merges.{is_covered}
use Rattle.ic_grid.specs.Prepare.{written}
use Rattle.ic_machine.specs.Book.{Book, Sheet, Stepped, at_sheet, core_of, notations_in, style_number_at, unless_refused, with_sheet}
use Rattle.ic_machine.specs.Content.{AnchorContent, BoolContent, Content, EmptyContent, ErrContent, FormulaContent, NumContent, TextContent, held}
use Rattle.ic_machine.specs.InForce.{formula_typed, typed_in}
use Rattle.ic_machine.specs.Placed.{index_in_pool, is_dynamic, pool_with}
use Rattle.ic_machine.specs.Refusal.{ArrayPart, Causes, InvalidColumn, InvalidRow, MergedPart, NotAFormula}
use Rattle.ic_machine.specs.Row.{Row}
use Rattle.ic_machine.specs.Styling.{Numbered, restyled}
use Rattle.ic_machine.specs.Word.{OfAmount, OfBool, OfIndex, OfPosition, OfText, words_of}

pub data Writing : Type 0 where
  SetUserInput : (sheet : ℕ) (row column : ℤ) (text : List ℕ) → Writing
  UpdateCellWithText : (sheet : ℕ) (row column : ℤ) (text : List ℕ) → Writing
  UpdateCellWithFormula : (sheet : ℕ) (row column : ℤ) (text : List ℕ) → Writing
  UpdateCellWithBool : (sheet : ℕ) (row column : ℤ) (truth : Bool) → Writing
  UpdateCellWithNumber : (sheet : ℕ) (row column : ℤ) (amount : ℤ) → Writing

abbrev pub writing_rows : List (Row Writing)
writing_rows =
    record { name = codes "set_user_input"; words = words_of (OfIndex ∷ OfPosition ∷ OfPosition ∷ OfText ∷ []); command = λ w. SetUserInput w.0 w.1.0 w.1.1.0 w.1.1.1.0 }
    ∷ record { name = codes "update_cell_with_text"; words = words_of (OfIndex ∷ OfPosition ∷ OfPosition ∷ OfText ∷ []); command = λ w. UpdateCellWithText w.0 w.1.0 w.1.1.0 w.1.1.1.0 }
    ∷ record { name = codes "update_cell_with_formula"; words = words_of (OfIndex ∷ OfPosition ∷ OfPosition ∷ OfText ∷ []); command = λ w. UpdateCellWithFormula w.0 w.1.0 w.1.1.0 w.1.1.1.0 }
    ∷ record { name = codes "update_cell_with_bool"; words = words_of (OfIndex ∷ OfPosition ∷ OfPosition ∷ OfBool ∷ []); command = λ w. UpdateCellWithBool w.0 w.1.0 w.1.1.0 w.1.1.1.0 }
    ∷ record { name = codes "update_cell_with_number"; words = words_of (OfIndex ∷ OfPosition ∷ OfPosition ∷ OfAmount ∷ []); command = λ w. UpdateCellWithNumber w.0 w.1.0 w.1.1.0 w.1.1.1.0 } ∷ []

-- What is written: the content, by the number of its style; what that does to the style which the place shows; and the
-- sheet's pool, which may get a formula.
pub record Written : Type 0 where
  pub content : ℕ → Content
  pub change : Style → Style
  pub pool : List Formula

-- each written value but a quoted one takes the quote flag away
abbrev pub unquoted : Style → Style
unquoted style = with_quote_prefix false style

abbrev pub value_written : Sheet → (ℕ → Content) → Written
value_written sheet content = record { content = content; change = unquoted; pool = sheet.pool }

-- a typed number gives its code, but a date leaves a code of dates as it is
abbrev pub coded : Option (List ℕ) → Style → Style
coded None style = style
coded (Some code) style = if is_date_code code && is_date_code style.num_fmt then style else with_format code style

-- a formula has no value yet; one that may spill is an array of one cell
abbrev pub formula_content : List FunctionKind → Formula → ℕ → ℕ → Content
formula_content functions formula index style =
    if is_dynamic functions formula then AnchorContent index (pos 1, pos 1) arrays.Dynamic fvalues.Unevaluated style
    else FormulaContent index fvalues.Unevaluated style

abbrev pub formula_written : Book → Sheet → Formula → Written
formula_written book sheet formula = record {
  content = formula_content book.tables.kinds formula (index_in_pool formula sheet.pool);
  change = unquoted;
  pool = pool_with formula sheet.pool;
}

-- the formula of a text without its prefix, in a cell
abbrev pub formula_at_place : Book → Sheet → CellPlace → List ℕ → Formula
formula_at_place book sheet place text = cell_formula (notations_in book) (core_of book) sheet.id place.0 place.1 text

-- what a typed text puts into a place: nothing keeps the quote flag, a quoted text sets it
abbrev pub typed_written : Book → Sheet → CellPlace → Typed → Written
typed_written book sheet place kinds.Empty = record { content = λ style. EmptyContent style; change = λ style. style; pool = sheet.pool }
typed_written book sheet place (kinds.Quoted text) = record { content = λ style. TextContent text style; change = with_quote_prefix true; pool = sheet.pool }
typed_written book sheet place (kinds.Formula text) = formula_written book sheet (formula_at_place book sheet place text)
typed_written book sheet place (kinds.Number amount code) = record { content = λ style. NumContent amount style; change = λ style. unquoted (coded code style); pool = sheet.pool }
typed_written book sheet place (kinds.Boolean truth) = value_written sheet (λ style. BoolContent truth style)
typed_written book sheet place (kinds.Error e) = value_written sheet (λ style. ErrContent e style)
typed_written book sheet place (kinds.Text text) = value_written sheet (λ style. TextContent text style)

-- a text that is given sets the quote flag where it needs a quote to be typed, and takes it away otherwise
abbrev pub text_written : Book → Sheet → List ℕ → Written
text_written book sheet text = record {
  content = λ style. TextContent text style;
  change = with_quote_prefix (needs_quoting text (typed_in book text));
  pool = sheet.pool;
}

-- where a cell can't be written
abbrev pub place_causes : CellPlace → Causes
place_causes place = (not (is_row place.0), InvalidRow) ∷ (not (is_column place.1), InvalidColumn) ∷ []

abbrev pub write_causes : Sheet → CellPlace → Causes
write_causes sheet place = (is_covered sheet.grid.merges place, MergedPart) ∷ (is_fixed_at held sheet.grid.contents place, ArrayPart) ∷ []

-- a sheet with a content at a place, which is prepared first
abbrev pub with_content : CellPlace → List Formula → Content → Sheet → Sheet
with_content place pool content sheet = record sheet { pool = pool; grid = record sheet.grid { contents = written held place content sheet.grid.contents } }

abbrev pub with_styled : Book → ℕ → Sheet → CellPlace → Written → Numbered → Book
with_styled book index sheet place w styled = record (with_sheet book index (with_content place w.pool (w.content styled.number) sheet)) { styles = styled.styles }

abbrev pub with_written : Book → ℕ → Sheet → CellPlace → Written → Book
with_written book index sheet place w =
    with_styled book index sheet place w (restyled w.change (style_number_at sheet.grid place.0 place.1) book.styles)

-- a write, with the causes that its text has
abbrev pub write_step : Book → ℕ → CellPlace → (Sheet → Written) → Causes → Stepped Book
write_step book index place w causes =
    at_sheet book index (λ sheet. unless_refused (place_causes place ++ (write_causes sheet place ++ causes)) (with_written book index sheet place (w sheet)) [])

unfoldable pub input_step : ℕ → CellPlace → List ℕ → Book → Stepped Book
input_step index place text book = write_step book index place (λ sheet. typed_written book sheet place (typed_in book text)) []

unfoldable pub text_step : ℕ → CellPlace → List ℕ → Book → Stepped Book
text_step index place text book = write_step book index place (λ sheet. text_written book sheet text) []

unfoldable pub formula_step : ℕ → CellPlace → List ℕ → Book → Stepped Book
formula_step index place text book =
    write_step book index place (λ sheet. formula_written book sheet (formula_at_place book sheet place (unwrap_or (formula_typed book text) [])))
    ((is_none (formula_typed book text), NotAFormula) ∷ [])

unfoldable pub bool_step : ℕ → CellPlace → Bool → Book → Stepped Book
bool_step index place truth book = write_step book index place (λ sheet. value_written sheet (λ style. BoolContent truth style)) []

unfoldable pub number_step : ℕ → CellPlace → ℤ → Book → Stepped Book
number_step index place amount book = write_step book index place (λ sheet. value_written sheet (λ style. NumContent amount style)) []

abbrev pub writing_step : Book → Writing → Stepped Book
writing_step book (SetUserInput sheet row column text) = input_step sheet (row, column) text book
writing_step book (UpdateCellWithText sheet row column text) = text_step sheet (row, column) text book
writing_step book (UpdateCellWithFormula sheet row column text) = formula_step sheet (row, column) text book
writing_step book (UpdateCellWithBool sheet row column truth) = bool_step sheet (row, column) truth book
writing_step book (UpdateCellWithNumber sheet row column amount) = number_step sheet (row, column) amount book
