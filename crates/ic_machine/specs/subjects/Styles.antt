-- The commands on the styles of cells, rows and columns.
use Rattle.std.specs.Prelude.{ℕ, ℤ, List, [], ◌∷◌, Bool, Option, Some, None, option_map, codes}
use Rattle.std.specs.FinMap as finite
use Rattle.std.specs.Option.{option_map_or}
use Rattle.ic_laws.specs.CoreBook.{CellPlace}
use Rattle.ic_cells.specs.Style.{style_at}
use Rattle.ic_cells.specs.declared.layout.ColumnProps.{ColumnProps}
use Rattle.ic_cells.specs.declared.layout.RowProps.{RowProps}
use Rattle.ic_cells.specs.declared.style.Color.{Color}
use Rattle.ic_cells.specs.declared.style.Style.{Style}
use Rattle.ic_machine.specs.Action.{Action, Asks, ChangesCells, ChangesGrid, perform}
use Rattle.ic_machine.specs.Book.{Book, Grid, Sheet, Stepped, at_sheet, content_at, style_number_at, unless_refused, with_sheet}
use Rattle.ic_machine.specs.Content.{style_of}
use Rattle.ic_machine.specs.Line.{column_causes, column_of, from_column, from_row, row_causes, row_of, with_column, with_row}
use Rattle.ic_machine.specs.Refusal.{Causes}
use Rattle.ic_machine.specs.Reply.{Field, number_field}
use Rattle.ic_machine.specs.Row.{Row}
use Rattle.ic_machine.specs.Styling.{Numbered, numbered, style_fields}
use Rattle.ic_machine.specs.Word.{OfColor, OfFlag, OfIndex, OfPosition, OfText, words_of}

pub data Styles : Type 0 where
  GetCellStyleIndex : (sheet : ℕ) (row column : ℤ) → Styles
  GetStyleForCell : (sheet : ℕ) (row column : ℤ) → Styles
  GetCellStyleOrNone : (sheet : ℕ) (row column : ℤ) → Styles
  SetColumnStyle : (sheet : ℕ) (column : ℤ) (style : Style) → Styles
  SetRowStyle : (sheet : ℕ) (row : ℤ) (style : Style) → Styles
  GetColumnStyle : (sheet : ℕ) (column : ℤ) → Styles
  GetRowStyle : (sheet : ℕ) (row : ℤ) → Styles
  DeleteColumnStyle : (sheet : ℕ) (column : ℤ) → Styles
  DeleteRowStyle : (sheet : ℕ) (row : ℤ) → Styles

-- a style is four words: the code, the quote flag, the bold flag, and the fill
abbrev pub style_said : List ℕ → Bool → Bool → Color → Style
style_said code quoted bold fill = record { num_fmt = code; quote_prefix = quoted; bold = bold; fill = fill }

abbrev pub style_rows : List (Row Styles)
style_rows =
    record { name = codes "get_cell_style_index"; words = words_of (OfIndex ∷ OfPosition ∷ OfPosition ∷ []); command = λ w. GetCellStyleIndex w.0 w.1.0 w.1.1.0 }
    ∷ record { name = codes "get_style_for_cell"; words = words_of (OfIndex ∷ OfPosition ∷ OfPosition ∷ []); command = λ w. GetStyleForCell w.0 w.1.0 w.1.1.0 }
    ∷ record { name = codes "get_cell_style_or_none"; words = words_of (OfIndex ∷ OfPosition ∷ OfPosition ∷ []); command = λ w. GetCellStyleOrNone w.0 w.1.0 w.1.1.0 }
    ∷ record { name = codes "set_column_style"; words = words_of (OfIndex ∷ OfPosition ∷ OfText ∷ OfFlag ∷ OfFlag ∷ OfColor ∷ []); command = λ w. SetColumnStyle w.0 w.1.0 (style_said w.1.1.0 w.1.1.1.0 w.1.1.1.1.0 w.1.1.1.1.1.0) }
    ∷ record { name = codes "set_row_style"; words = words_of (OfIndex ∷ OfPosition ∷ OfText ∷ OfFlag ∷ OfFlag ∷ OfColor ∷ []); command = λ w. SetRowStyle w.0 w.1.0 (style_said w.1.1.0 w.1.1.1.0 w.1.1.1.1.0 w.1.1.1.1.1.0) }
    ∷ record { name = codes "get_column_style"; words = words_of (OfIndex ∷ OfPosition ∷ []); command = λ w. GetColumnStyle w.0 w.1.0 }
    ∷ record { name = codes "get_row_style"; words = words_of (OfIndex ∷ OfPosition ∷ []); command = λ w. GetRowStyle w.0 w.1.0 }
    ∷ record { name = codes "delete_column_style"; words = words_of (OfIndex ∷ OfPosition ∷ []); command = λ w. DeleteColumnStyle w.0 w.1.0 }
    ∷ record { name = codes "delete_row_style"; words = words_of (OfIndex ∷ OfPosition ∷ []); command = λ w. DeleteRowStyle w.0 w.1.0 } ∷ []

-- the style of a place: its cell's, else its row's, else its column's, else the first ----

unfoldable pub style_index_step : ℕ → CellPlace → Book → Stepped Book
style_index_step index place book = at_sheet book index (λ sheet. unless_refused [] book (number_field (style_number_at sheet.grid place.0 place.1)))

unfoldable pub cell_style_step : ℕ → CellPlace → Book → Stepped Book
cell_style_step index place book =
    at_sheet book index (λ sheet. unless_refused [] book (style_fields (style_at book.styles (style_number_at sheet.grid place.0 place.1))))

-- the fields of the style with a number, where there is one
abbrev pub optional_style : Book → Option ℕ → List Field
optional_style book number = option_map_or (λ n. style_fields (style_at book.styles n)) number []

-- that of the cell alone
unfoldable pub own_style_step : ℕ → CellPlace → Book → Stepped Book
own_style_step index place book =
    at_sheet book index (λ sheet. unless_refused [] book (optional_style book (option_map style_of (content_at sheet place.0 place.1))))

-- the styles of rows and columns ----

-- a style is set in a sheet's grid by its number in the book's list
abbrev pub with_grid_style : Book → ℕ → Sheet → (ℕ → Grid → Grid) → Numbered → Book
with_grid_style book index sheet set styled =
    record (with_sheet book index (record sheet { grid = set styled.number sheet.grid })) { styles = styled.styles }

abbrev pub set_style_step : Book → ℕ → Causes → Style → (ℕ → Grid → Grid) → Stepped Book
set_style_step book index causes style set =
    at_sheet book index (λ sheet. unless_refused causes (with_grid_style book index sheet set (numbered style book.styles)) [])

unfoldable pub set_column_step : ℕ → ℤ → Style → Book → Stepped Book
set_column_step index column style book =
    set_style_step book index (column_causes column) style
    (λ n grid. record grid { columns = with_column column (λ props. record props { style = Some n }) grid.columns })

unfoldable pub set_row_step : ℕ → ℤ → Style → Book → Stepped Book
set_row_step index row style book =
    set_style_step book index (row_causes row) style (λ n grid. record grid { rows = with_row row (λ props. record props { style = Some n }) grid.rows })

unfoldable pub column_style_step : ℕ → ℤ → Book → Stepped Book
column_style_step index column book =
    at_sheet book index (λ sheet. unless_refused (column_causes column) book (optional_style book (column_of sheet.grid.columns column).style))

unfoldable pub row_style_step : ℕ → ℤ → Book → Stepped Book
row_style_step index row book =
    at_sheet book index (λ sheet. unless_refused (row_causes row) book (optional_style book (row_of sheet.grid.rows row).style))

abbrev pub without_column_style : ColumnProps → ColumnProps
without_column_style props = record props { style = None }

abbrev pub without_row_style : RowProps → RowProps
without_row_style props = record props { style = None }

unfoldable pub delete_column_step : ℤ → Grid → Stepped Grid
delete_column_step column grid =
    unless_refused (column_causes column) (record grid { columns = from_column (finite.get grid.columns column) column without_column_style grid.columns }) []

unfoldable pub delete_row_step : ℤ → Grid → Stepped Grid
delete_row_step row grid =
    unless_refused (row_causes row) (record grid { rows = from_row (finite.get grid.rows row) row without_row_style grid.rows }) []

abbrev pub style_action : Styles → Action
style_action (GetCellStyleIndex sheet row column) = Asks (style_index_step sheet (row, column))
style_action (GetStyleForCell sheet row column) = Asks (cell_style_step sheet (row, column))
style_action (GetCellStyleOrNone sheet row column) = Asks (own_style_step sheet (row, column))
style_action (SetColumnStyle sheet column style) = ChangesCells (set_column_step sheet column style)
style_action (SetRowStyle sheet row style) = ChangesCells (set_row_step sheet row style)
style_action (GetColumnStyle sheet column) = Asks (column_style_step sheet column)
style_action (GetRowStyle sheet row) = Asks (row_style_step sheet row)
style_action (DeleteColumnStyle sheet column) = ChangesGrid sheet (delete_column_step column)
style_action (DeleteRowStyle sheet row) = ChangesGrid sheet (delete_row_step row)

abbrev pub style_step : Book → Styles → Stepped Book
style_step book command = perform book (style_action command)
