-- The commands on the tabs of sheets, on what stays in sight there, and on the theme.
use Rattle.std.specs.Prelude.{ℕ, ℤ, pos, List, [], ◌∷◌, Bool, int_le, int_lt, codes}
use Rattle.ic_laws.specs.declared.reference.TheConstants.{LAST_COLUMN, LAST_ROW}
use Rattle.ic_cells.specs.declared.sheet.SheetState.{SheetState}
use Rattle.ic_cells.specs.declared.style.Color.{Color}
use Rattle.ic_machine.specs.Action.{Action, Asks, ChangesSettings, ChangesTab, perform}
use Rattle.ic_machine.specs.Book.{Book, Stepped, Tab, on_tab, unless_refused}
use Rattle.ic_machine.specs.Refusal.{FrozenNegative, TooManyColumns, TooManyRows}
use Rattle.ic_machine.specs.Reply.{position_field, text_field}
use Rattle.ic_machine.specs.Row.{Row}
use Rattle.ic_machine.specs.Word.{OfBool, OfColor, OfIndex, OfPosition, OfState, OfText, words_of}

pub data Tabs : Type 0 where
  SetTheme : (name : List ℕ) → Tabs
  GetTheme : Tabs
  SetFrozenRows : (sheet : ℕ) (count : ℤ) → Tabs
  SetFrozenColumns : (sheet : ℕ) (count : ℤ) → Tabs
  GetFrozenRowsCount : (sheet : ℕ) → Tabs
  GetFrozenColumnsCount : (sheet : ℕ) → Tabs
  SetSheetColor : (sheet : ℕ) (color : Color) → Tabs
  SetSheetState : (sheet : ℕ) (state : SheetState) → Tabs
  SetShowGridLines : (sheet : ℕ) (shows : Bool) → Tabs

abbrev pub tab_rows : List (Row Tabs)
tab_rows =
    record { name = codes "set_theme"; words = words_of (OfText ∷ []); command = λ w. SetTheme w.0 }
    ∷ record { name = codes "get_theme"; words = words_of []; command = λ w. GetTheme }
    ∷ record { name = codes "set_frozen_rows"; words = words_of (OfIndex ∷ OfPosition ∷ []); command = λ w. SetFrozenRows w.0 w.1.0 }
    ∷ record { name = codes "set_frozen_columns"; words = words_of (OfIndex ∷ OfPosition ∷ []); command = λ w. SetFrozenColumns w.0 w.1.0 }
    ∷ record { name = codes "get_frozen_rows_count"; words = words_of (OfIndex ∷ []); command = λ w. GetFrozenRowsCount w.0 }
    ∷ record { name = codes "get_frozen_columns_count"; words = words_of (OfIndex ∷ []); command = λ w. GetFrozenColumnsCount w.0 }
    ∷ record { name = codes "set_sheet_color"; words = words_of (OfIndex ∷ OfColor ∷ []); command = λ w. SetSheetColor w.0 w.1.0 }
    ∷ record { name = codes "set_sheet_state"; words = words_of (OfIndex ∷ OfState ∷ []); command = λ w. SetSheetState w.0 w.1.0 }
    ∷ record { name = codes "set_show_grid_lines"; words = words_of (OfIndex ∷ OfBool ∷ []); command = λ w. SetShowGridLines w.0 w.1.0 } ∷ []

unfoldable pub set_theme_step : List ℕ → Book → Stepped Book
set_theme_step name book = unless_refused [] (record book { theme = name }) []

unfoldable pub get_theme_step : Book → Stepped Book
get_theme_step book = unless_refused [] book (text_field book.theme)

-- steps on one tab ----

-- fewer rows and columns stay in sight than a sheet has
unfoldable pub freeze_rows_step : ℤ → Tab → Stepped Tab
freeze_rows_step count tab =
    unless_refused ((int_lt count (pos 0), FrozenNegative) ∷ (int_le LAST_ROW count, TooManyRows) ∷ []) (record tab { frozen_rows = count }) []

unfoldable pub freeze_columns_step : ℤ → Tab → Stepped Tab
freeze_columns_step count tab =
    unless_refused ((int_lt count (pos 0), FrozenNegative) ∷ (int_le LAST_COLUMN count, TooManyColumns) ∷ []) (record tab { frozen_columns = count }) []

unfoldable pub frozen_rows_step : Tab → Stepped Tab
frozen_rows_step tab = unless_refused [] tab (position_field tab.frozen_rows)

unfoldable pub frozen_columns_step : Tab → Stepped Tab
frozen_columns_step tab = unless_refused [] tab (position_field tab.frozen_columns)

unfoldable pub color_step : Color → Tab → Stepped Tab
color_step color tab = unless_refused [] (record tab { color = color }) []

unfoldable pub state_step : SheetState → Tab → Stepped Tab
state_step state tab = unless_refused [] (record tab { state = state }) []

unfoldable pub grid_lines_step : Bool → Tab → Stepped Tab
grid_lines_step shows tab = unless_refused [] (record tab { shows_grid_lines = shows }) []

abbrev pub tab_action : Tabs → Action
tab_action (SetTheme name) = ChangesSettings (set_theme_step name)
tab_action GetTheme = Asks get_theme_step
tab_action (SetFrozenRows sheet count) = ChangesTab sheet (freeze_rows_step count)
tab_action (SetFrozenColumns sheet count) = ChangesTab sheet (freeze_columns_step count)
tab_action (GetFrozenRowsCount sheet) = Asks (λ book. on_tab book sheet frozen_rows_step)
tab_action (GetFrozenColumnsCount sheet) = Asks (λ book. on_tab book sheet frozen_columns_step)
tab_action (SetSheetColor sheet color) = ChangesTab sheet (color_step color)
tab_action (SetSheetState sheet state) = ChangesTab sheet (state_step state)
tab_action (SetShowGridLines sheet shows) = ChangesTab sheet (grid_lines_step shows)

abbrev pub tab_step : Book → Tabs → Stepped Book
tab_step book command = perform book (tab_action command)
