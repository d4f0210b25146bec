-- The commands on the widths of columns, the heights of rows, and which of them are hidden. Widths and heights are in
-- hundredths.
use Rattle.std.specs.Prelude.{ℕ, ℤ, List, [], ◌∷◌, Bool, Some, codes}
use Rattle.std.specs.FinMap as finite
use Rattle.ic_cells.specs.Layout.{height_of, width_of}
use Rattle.ic_machine.specs.Action.{Action, Asks, ChangesGrid, perform}
use Rattle.ic_machine.specs.Book.{Book, Grid, Stepped, on_grid, unless_refused}
use Rattle.ic_machine.specs.Line.{column_causes, column_of, row_causes, row_of, with_column, with_row}
use Rattle.ic_machine.specs.Reply.{bool_field, number_field}
use Rattle.ic_machine.specs.Row.{Row}
use Rattle.ic_machine.specs.Word.{OfBool, OfIndex, OfPosition, words_of}

pub data Layout : Type 0 where
  SetColumnWidth : (sheet : ℕ) (column : ℤ) (width : ℕ) → Layout
  SetRowHeight : (sheet : ℕ) (row : ℤ) (height : ℕ) → Layout
  GetColumnWidth : (sheet : ℕ) (column : ℤ) → Layout
  GetRowHeight : (sheet : ℕ) (row : ℤ) → Layout
  SetColumnHidden : (sheet : ℕ) (column : ℤ) (hidden : Bool) → Layout
  SetRowHidden : (sheet : ℕ) (row : ℤ) (hidden : Bool) → Layout
  IsColumnHidden : (sheet : ℕ) (column : ℤ) → Layout
  IsRowHidden : (sheet : ℕ) (row : ℤ) → Layout

abbrev pub layout_rows : List (Row Layout)
layout_rows =
    record { name = codes "set_column_width"; words = words_of (OfIndex ∷ OfPosition ∷ OfIndex ∷ []); command = λ w. SetColumnWidth w.0 w.1.0 w.1.1.0 }
    ∷ record { name = codes "set_row_height"; words = words_of (OfIndex ∷ OfPosition ∷ OfIndex ∷ []); command = λ w. SetRowHeight w.0 w.1.0 w.1.1.0 }
    ∷ record { name = codes "get_column_width"; words = words_of (OfIndex ∷ OfPosition ∷ []); command = λ w. GetColumnWidth w.0 w.1.0 }
    ∷ record { name = codes "get_row_height"; words = words_of (OfIndex ∷ OfPosition ∷ []); command = λ w. GetRowHeight w.0 w.1.0 }
    ∷ record { name = codes "set_column_hidden"; words = words_of (OfIndex ∷ OfPosition ∷ OfBool ∷ []); command = λ w. SetColumnHidden w.0 w.1.0 w.1.1.0 }
    ∷ record { name = codes "set_row_hidden"; words = words_of (OfIndex ∷ OfPosition ∷ OfBool ∷ []); command = λ w. SetRowHidden w.0 w.1.0 w.1.1.0 }
    ∷ record { name = codes "is_column_hidden"; words = words_of (OfIndex ∷ OfPosition ∷ []); command = λ w. IsColumnHidden w.0 w.1.0 }
    ∷ record { name = codes "is_row_hidden"; words = words_of (OfIndex ∷ OfPosition ∷ []); command = λ w. IsRowHidden w.0 w.1.0 } ∷ []

-- steps on one grid ----

unfoldable pub set_width_step : ℤ → ℕ → Grid → Stepped Grid
set_width_step column width grid =
    unless_refused (column_causes column) (record grid { columns = with_column column (λ props. record props { width = Some width }) grid.columns }) []

unfoldable pub set_height_step : ℤ → ℕ → Grid → Stepped Grid
set_height_step row height grid =
    unless_refused (row_causes row) (record grid { rows = with_row row (λ props. record props { height = Some height }) grid.rows }) []

unfoldable pub get_width_step : ℤ → Grid → Stepped Grid
get_width_step column grid = unless_refused (column_causes column) grid (number_field (width_of (finite.get grid.columns column)))

unfoldable pub get_height_step : ℤ → Grid → Stepped Grid
get_height_step row grid = unless_refused (row_causes row) grid (number_field (height_of (finite.get grid.rows row)))

unfoldable pub hide_column_step : ℤ → Bool → Grid → Stepped Grid
hide_column_step column hidden grid =
    unless_refused (column_causes column) (record grid { columns = with_column column (λ props. record props { hidden = hidden }) grid.columns }) []

unfoldable pub hide_row_step : ℤ → Bool → Grid → Stepped Grid
hide_row_step row hidden grid =
    unless_refused (row_causes row) (record grid { rows = with_row row (λ props. record props { hidden = hidden }) grid.rows }) []

unfoldable pub column_hidden_step : ℤ → Grid → Stepped Grid
column_hidden_step column grid = unless_refused (column_causes column) grid (bool_field (column_of grid.columns column).hidden)

unfoldable pub row_hidden_step : ℤ → Grid → Stepped Grid
row_hidden_step row grid = unless_refused (row_causes row) grid (bool_field (row_of grid.rows row).hidden)

abbrev pub layout_action : Layout → Action
layout_action (SetColumnWidth sheet column width) = ChangesGrid sheet (set_width_step column width)
layout_action (SetRowHeight sheet row height) = ChangesGrid sheet (set_height_step row height)
layout_action (GetColumnWidth sheet column) = Asks (λ book. on_grid book sheet (get_width_step column))
layout_action (GetRowHeight sheet row) = Asks (λ book. on_grid book sheet (get_height_step row))
layout_action (SetColumnHidden sheet column hidden) = ChangesGrid sheet (hide_column_step column hidden)
layout_action (SetRowHidden sheet row hidden) = ChangesGrid sheet (hide_row_step row hidden)
layout_action (IsColumnHidden sheet column) = Asks (λ book. on_grid book sheet (column_hidden_step column))
layout_action (IsRowHidden sheet row) = Asks (λ book. on_grid book sheet (row_hidden_step row))

abbrev pub layout_step : Book → Layout → Stepped Book
layout_step book command = perform book (layout_action command)
