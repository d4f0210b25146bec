-- Each command that looks at the notation for no more than how it replies and which styles it gives leaves the same of books
-- that are the same.
use Rattle.std.proofs.Common.{◌≡◌, ℕ, List, [], ◌∷◌, Bool, true, false, not, Ok, Err, refl, ap, subst}
use Rattle.ic_tables.specs.Tables.{TableSet, lists_zone}
use Rattle.ic_machine.specs.Book.{Book, Stepped, Tab, on_tab}
use Rattle.ic_machine.specs.Command.{Command, OnArrays, OnDefinitions, OnExtending, OnLayout, OnNotation, OnReading, OnSheets, OnStyles, OnTabs, OnWriting}
use Rattle.ic_machine.specs.Refusal.{Causes, InvalidTimezone}
use Rattle.ic_machine.specs.Same.{IsSameBook}
use Rattle.ic_machine.specs.Step.{step}
use Rattle.ic_machine.specs.TranslationLaws.{OthersAreSame, looks_at_notation}
use Rattle.ic_machine.specs.subjects.Arrays as arrays
use Rattle.ic_machine.specs.subjects.Arrays.{clear_step, put_spill_step, put_value_step}
use Rattle.ic_machine.specs.subjects.Definitions as definitions
use Rattle.ic_machine.specs.subjects.Layout as layout
use Rattle.ic_machine.specs.subjects.Layout.{hide_column_step, hide_row_step, set_height_step, set_width_step}
use Rattle.ic_machine.specs.subjects.Notation as notation
use Rattle.ic_machine.specs.subjects.Notation.{set_timezone_step}
use Rattle.ic_machine.specs.subjects.Sheets as sheets
use Rattle.ic_machine.specs.subjects.Styles as styles
use Rattle.ic_machine.specs.subjects.Styles.{delete_column_step, delete_row_step}
use Rattle.ic_machine.specs.subjects.Tabs as tabs
use Rattle.ic_machine.specs.subjects.Tabs.{set_theme_step}
use Rattle.ic_machine.specs.subjects.Writing as writing
use Rattle.ic_machine.proofs.same.GridsSame.{clear_same, column_hidden_same, column_style_same, column_unstyled, height_same, row_hidden_same, row_style_same, row_unstyled, spill_same, value_same, width_same}
use Rattle.ic_machine.proofs.same.SameSteps.{SameSteps, leaves_same, on_grid_same, on_tab_same, refused_same}
use Rattle.ic_machine.proofs.same.SheetsSame.{add_same, delete_by_id_same, delete_by_name_same, delete_definition_same, delete_same, duplicate_same, insert_same, move_same, rename_by_index_same, rename_same}
use Rattle.ic_machine.proofs.same.WritingSame.{bool_same, number_same, text_same}

-- where a command doesn't look at the notation
abbrev SameIf : Bool → Book → Book → Command → Type 0
SameIf true b c command = Unit {0}
SameIf false b c command = SameSteps IsSameBook (step b command) (step c command)

module _ (b c : Book) (same : IsSameBook b c) where
  themed : (name : List ℕ) → IsSameBook (record b { theme = name }) (record c { theme = name })
  themed name = record { sheets = same.sheets; definitions = same.definitions; zone = same.zone; theme = refl; name = same.name; metadata = same.metadata; tables = same.tables }

  zoned : (id : List ℕ) → IsSameBook (record b { zone = id }) (record c { zone = id })
  zoned id = record { sheets = same.sheets; definitions = same.definitions; zone = refl; theme = same.theme; name = same.name; metadata = same.metadata; tables = same.tables }

  on_sheets : (command : sheets.Sheets) → SameIf (looks_at_notation (OnSheets command)) b c (OnSheets command)
  on_sheets (sheets.AddSheet name) = add_same b c same name
  on_sheets (sheets.InsertSheet name index id) = insert_same b c same name index id
  on_sheets (sheets.DuplicateSheet sheet) = duplicate_same b c same sheet
  on_sheets (sheets.RenameSheet old new) = rename_same b c same old new
  on_sheets (sheets.RenameSheetByIndex sheet name) = rename_by_index_same b c same sheet name
  on_sheets (sheets.MoveSheet sheet to) = move_same b c same sheet to
  on_sheets (sheets.DeleteSheet sheet) = delete_same b c same sheet
  on_sheets (sheets.DeleteSheetByName name) = delete_by_name_same b c same name
  on_sheets (sheets.DeleteSheetBySheetId id) = delete_by_id_same b c same id
  on_sheets command = tt

  on_definitions : (command : definitions.Definitions) → SameIf (looks_at_notation (OnDefinitions command)) b c (OnDefinitions command)
  on_definitions (definitions.DeleteDefinedName name scope) = delete_definition_same b c same name scope
  on_definitions command = tt

  on_notation : (command : notation.Notation) → SameIf (looks_at_notation (OnNotation command)) b c (OnNotation command)
  unfolding set_timezone_step
  on_notation (notation.SetTimezone id) =
      refused_same IsSameBook ((not (lists_zone b.tables id), InvalidTimezone) ∷ []) ((not (lists_zone c.tables id), InvalidTimezone) ∷ []) _ _ [] []
      (ap (λ (tables : TableSet). let causes : Causes = (not (lists_zone tables id), InvalidTimezone) ∷ [] in causes) same.tables) (zoned id)
  on_notation command = tt

  on_writing : (command : writing.Writing) → SameIf (looks_at_notation (OnWriting command)) b c (OnWriting command)
  on_writing (writing.UpdateCellWithText sheet row column text) = text_same b c same sheet (row, column) text
  on_writing (writing.UpdateCellWithBool sheet row column truth) = bool_same b c same sheet (row, column) truth
  on_writing (writing.UpdateCellWithNumber sheet row column amount) = number_same b c same sheet (row, column) amount
  on_writing command = tt

  on_styles : (command : styles.Styles) → SameIf (looks_at_notation (OnStyles command)) b c (OnStyles command)
  on_styles (styles.SetColumnStyle sheet column style) = column_style_same b c same sheet column style
  on_styles (styles.SetRowStyle sheet row style) = row_style_same b c same sheet row style
  on_styles (styles.DeleteColumnStyle sheet column) = on_grid_same b c same sheet (delete_column_step column) (λ g h grids. column_unstyled g h grids column)
  on_styles (styles.DeleteRowStyle sheet row) = on_grid_same b c same sheet (delete_row_step row) (λ g h grids. row_unstyled g h grids row)
  on_styles command = tt

  on_layout : (command : layout.Layout) → SameIf (looks_at_notation (OnLayout command)) b c (OnLayout command)
  on_layout (layout.SetColumnWidth sheet column width) = on_grid_same b c same sheet (set_width_step column width) (λ g h grids. width_same g h grids column width)
  on_layout (layout.SetRowHeight sheet row height) = on_grid_same b c same sheet (set_height_step row height) (λ g h grids. height_same g h grids row height)
  on_layout (layout.SetColumnHidden sheet column hidden) = on_grid_same b c same sheet (hide_column_step column hidden) (λ g h grids. column_hidden_same g h grids column hidden)
  on_layout (layout.SetRowHidden sheet row hidden) = on_grid_same b c same sheet (hide_row_step row hidden) (λ g h grids. row_hidden_same g h grids row hidden)
  on_layout command = tt

  -- a step on a tab is the same on the same tab
  itself : (stepped : Stepped Tab) → SameSteps (◌≡◌ {A = Tab}) stepped stepped
  itself (Ok done) = refl
  itself (Err refusal) = tt

  on_a_tab : (index : ℕ) (f : Tab → Stepped Tab) → SameSteps IsSameBook (on_tab b index f) (on_tab c index f)
  on_a_tab index f = on_tab_same b c same index f (λ u. itself (f u))

  on_tabs : (command : tabs.Tabs) → SameIf (looks_at_notation (OnTabs command)) b c (OnTabs command)
  unfolding set_theme_step
  on_tabs (tabs.SetTheme name) = themed name
  on_tabs (tabs.SetFrozenRows sheet count) = on_a_tab sheet _
  on_tabs (tabs.SetFrozenColumns sheet count) = on_a_tab sheet _
  on_tabs (tabs.SetSheetColor sheet color) = on_a_tab sheet _
  on_tabs (tabs.SetSheetState sheet state) = on_a_tab sheet _
  on_tabs (tabs.SetShowGridLines sheet shows) = on_a_tab sheet _
  on_tabs command = tt

  on_arrays : (command : arrays.Arrays) → SameIf (looks_at_notation (OnArrays command)) b c (OnArrays command)
  on_arrays (arrays.RangeClearContents sheet block) = on_grid_same b c same sheet (clear_step false block) (λ g h grids. clear_same g h grids false block)
  on_arrays (arrays.RangeClearAll sheet block) = on_grid_same b c same sheet (clear_step true block) (λ g h grids. clear_same g h grids true block)
  on_arrays (arrays.PutFormulaValue sheet place value) = on_grid_same b c same sheet (put_value_step place value) (λ g h grids. value_same g h grids place value)
  on_arrays (arrays.PutSpill sheet block values) = on_grid_same b c same sheet (put_spill_step block values) (λ g h grids. spill_same g h grids block values)
  on_arrays command = tt

  all_same : (command : Command) → SameIf (looks_at_notation command) b c command
  all_same (OnSheets command) = on_sheets command
  all_same (OnDefinitions command) = on_definitions command
  all_same (OnNotation command) = on_notation command
  all_same (OnWriting command) = on_writing command
  all_same (OnReading command) = tt
  all_same (OnExtending command) = tt
  all_same (OnStyles command) = on_styles command
  all_same (OnLayout command) = on_layout command
  all_same (OnTabs command) = on_tabs command
  all_same (OnArrays command) = on_arrays command

pub others_are_same : (locale language : List ℕ) → OthersAreSame locale language
others_are_same locale language book left other fields command beside looks e =
    leaves_same left fields (step book command) (step other command) e (subst (λ (t : Bool). SameIf t book other command) looks (all_same book other beside.same command))
