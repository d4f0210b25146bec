-- Each command leaves what its kind says.
use Rattle.std.proofs.Common.{◌≡◌, ℕ, zero, suc, List, [], ◌∷◌, Bool, true, Option, Some, None, Ok, Err, refl, sym, ap, ◌∙◌}
use Rattle.std.specs.FinMap as finite
use Rattle.std.specs.Prelude.{option_map, slice_get}
use Rattle.ic_cells.specs.Layout.{height_of, width_of}
use Rattle.ic_cells.specs.declared.style.Style.{Style}
use Rattle.ic_laws.specs.CoreStep.{Outcome, updated_at}
use Rattle.ic_laws.specs.FormulaReading.{Body}
use Rattle.ic_laws.specs.declared.tree.Formula.{Formula}
use Rattle.ic_machine.specs.Action.{Action, Asks, ChangesCells, ChangesGrid, ChangesLists, ChangesNotation, ChangesSettings, ChangesTab, leaves_lists, perform}
use Rattle.ic_machine.specs.Book.{Book, Grid, Sheet, Stepped, Tab, as_core, found_or, on_grid, on_tab, put_in, unless, unless_refused, with_sheet}
use Rattle.ic_machine.specs.Changed.{changed_by, changed_with, without_definition}
use Rattle.ic_machine.specs.Command.{Command, OnArrays, OnDefinitions, OnExtending, OnLayout, OnNotation, OnReading, OnSheets, OnStyles, OnTabs, OnWriting, action}
use Rattle.ic_machine.specs.Kinds.{HasOtherLists, HasOtherNotation, HasOtherSettings, HasOtherSheet, IsLeftBy, LeavesSo}
use Rattle.ic_machine.specs.Line.{column_causes, column_of, row_causes, row_of}
use Rattle.ic_machine.specs.Readers.{Leaves}
use Rattle.ic_machine.specs.Refusal.{Causes, InvalidSheet, Refusal, first_refusal}
use Rattle.ic_machine.specs.Reply.{Field, bool_field, number_field}
use Rattle.ic_machine.specs.Step.{step}
use Rattle.ic_machine.specs.subjects.Arrays as arrays
use Rattle.ic_machine.specs.subjects.Arrays.{array_step, arrays_action}
use Rattle.ic_machine.specs.subjects.Definitions as definitions
use Rattle.ic_machine.specs.subjects.Definitions.{Update, definition_action, delete_definition_step, keys_of_update, list_step, new_definition_step, update_name_step, updated_index, valid_definition_step, with_body, with_new_definition, with_update, would_capture_step}
use Rattle.ic_machine.specs.subjects.Extending as extending
use Rattle.ic_machine.specs.subjects.Extending.{extend_copied_step, extend_step, extending_step, parse_step}
use Rattle.ic_machine.specs.subjects.Layout as layout
use Rattle.ic_machine.specs.subjects.Layout.{column_hidden_step, get_height_step, get_width_step, layout_action, row_hidden_step}
use Rattle.ic_machine.specs.subjects.Notation as notation
use Rattle.ic_machine.specs.subjects.Notation.{get_language_step, get_locale_step, get_timezone_step, notation_action, set_language_step, set_locale_step, set_timezone_step, settings_step}
use Rattle.ic_machine.specs.subjects.Reading as reading
use Rattle.ic_machine.specs.subjects.Reading.{all_cells_step, cell_formula_step, content_step, empty_step, formatted_step, markup_step, reading_step, type_step, value_by_ref_step, value_step}
use Rattle.ic_machine.specs.subjects.Sheets as sheets
use Rattle.ic_machine.specs.subjects.Sheets.{add_sheet_step, delete_by_id_step, delete_by_name_step, delete_sheet_step, duplicate_sheet_step, insert_sheet_step, move_sheet_step, new_sheet_id_step, new_sheet_step, properties_step, rename_by_index_step, rename_sheet_step, sheet_action}
use Rattle.ic_machine.specs.subjects.Styles as styles
use Rattle.ic_machine.specs.subjects.Styles.{cell_style_step, column_style_step, optional_style, own_style_step, row_style_step, set_column_step, set_row_step, style_action, style_index_step}
use Rattle.ic_machine.specs.subjects.Tabs as tabs
use Rattle.ic_machine.specs.subjects.Tabs.{frozen_columns_step, frozen_rows_step, get_theme_step, set_theme_step, tab_action}
use Rattle.ic_machine.specs.subjects.Writing as writing
use Rattle.ic_machine.specs.subjects.Writing.{bool_step, formula_step, input_step, number_step, text_step, writing_step}

-- an item that is put where it stands
put_same : {X : Type 0} (i : ℕ) (xs : List X) (x : X) → slice_get xs i ≡ Some x → updated_at (λ old. x) i xs ≡ xs
put_same i [] x e = refl
put_same zero (y ∷ xs) x e = let same : y ≡ x = cc in ap (λ z. z ∷ xs) (sym same)
put_same (suc i) (y ∷ xs) x e = ap (λ ys. y ∷ ys) (put_same i xs x e)

module _ (b : Book) where
  -- Steps that only ask. ----

  leaves : (o : Option Refusal) (fields : List Field) → Leaves b (unless o b fields)
  leaves None fields = refl
  leaves (Some refusal) fields = tt

  -- one of the identity machine
  leaves_core : (o : Outcome) → Leaves b (as_core o b)
  leaves_core (Ok done) = refl
  leaves_core (Err refusal) = tt

  -- one on a sheet
  leaves_found : (o : Option Sheet) (causes : Sheet → Causes) (fields : Sheet → List Field) → Leaves b (found_or InvalidSheet (option_map (λ sheet. unless_refused (causes sheet) b (fields sheet)) o))
  leaves_found None causes fields = tt
  leaves_found (Some sheet) causes fields = leaves (first_refusal (causes sheet)) (fields sheet)

  -- one on a part of it, which is put back as it was
  back : {P : Type 0} (put : P → Sheet) (part : P) (o : Option Refusal) (index : ℕ) (sheet : Sheet) (fields : List Field) → put part ≡ sheet → slice_get b.sheets index ≡ Some sheet
      → Leaves b (put_in (with_sheet b index) (put_in put (unless o part fields)))
  back put part None index sheet fields same e =
      ap (λ (ss : List Sheet). let c : Book = record b { sheets = ss } in c) (ap (λ (s : Sheet). updated_at (λ old. s) index b.sheets) same ∙ put_same index b.sheets sheet e)
  back put part (Some refusal) index sheet fields same e = tt

  back_at : {P : Type 0} (part : Sheet → P) (put : Sheet → P → Sheet) → ((s : Sheet) → put s (part s) ≡ s) → (index : ℕ) (o : Option Sheet) → slice_get b.sheets index ≡ o → (causes : P → Causes) (fields : P → List Field)
      → Leaves b (found_or InvalidSheet (option_map (λ (s : Sheet). put_in (with_sheet b index) (put_in (put s) (unless_refused (causes (part s)) (part s) (fields (part s))))) o))
  back_at part put same index None e causes fields = tt
  back_at part put same index (Some s) e causes fields = back (put s) (part s) (first_refusal (causes (part s))) index s (fields (part s)) (same s) e

  leaves_grid : (index : ℕ) (causes : Grid → Causes) (fields : Grid → List Field) → Leaves b (on_grid b index (λ grid. unless_refused (causes grid) grid (fields grid)))
  unfolding on_grid
  leaves_grid index causes fields = back_at (λ (s : Sheet). s.grid) (λ s grid. record s { grid = grid }) (λ s. refl) index (slice_get b.sheets index) refl causes fields

  leaves_tab : (index : ℕ) (causes : Tab → Causes) (fields : Tab → List Field) → Leaves b (on_tab b index (λ tab. unless_refused (causes tab) tab (fields tab)))
  unfolding on_tab
  leaves_tab index causes fields = back_at (λ (s : Sheet). s.tab) (λ s tab. record s { tab = tab }) (λ s. refl) index (slice_get b.sheets index) refl causes fields

  -- Steps that change something. ----

  unless_so : (Stands : Book → Book → Type 0) (o : Option Refusal) (left : Book) (fields : List Field) → Stands b left → LeavesSo Stands b (unless o left fields)
  unless_so Stands None left fields h = h
  unless_so Stands (Some refusal) left fields h = tt

  core_so : (Stands : Book → Book → Type 0) (o : Outcome) (left : Book) → Stands b left → LeavesSo Stands b (as_core o left)
  core_so Stands (Ok done) left h = h
  core_so Stands (Err refusal) left h = tt

  so_at : (Stands : Book → Book → Type 0) (index : ℕ) (o : Option Sheet) → slice_get b.sheets index ≡ o → (f : Sheet → Stepped Book) → ((sheet : Sheet) → slice_get b.sheets index ≡ Some sheet → LeavesSo Stands b (f sheet))
      → LeavesSo Stands b (found_or InvalidSheet (option_map f o))
  so_at Stands index None e f h = tt
  so_at Stands index (Some sheet) e f h = h sheet e

  found_so : (Stands : Book → Book → Type 0) (index : ℕ) (f : Sheet → Stepped Book) → ((sheet : Sheet) → slice_get b.sheets index ≡ Some sheet → LeavesSo Stands b (f sheet))
      → LeavesSo Stands b (found_or InvalidSheet (option_map f (slice_get b.sheets index)))
  found_so Stands index f h = so_at Stands index (slice_get b.sheets index) refl f h

  other_sheet : (index : ℕ) (old new : Sheet) (more : List Style) → slice_get b.sheets index ≡ Some old → new.id ≡ old.id → new.name ≡ old.name → HasOtherSheet b (record (with_sheet b index new) { styles = more })
  other_sheet index old new more there id name = record { index = index; old = old; new = new; styles = more; there = there; id = id; name = name; is = refl }

  put_so : {P : Type 0} (index : ℕ) (sheet : Sheet) (put : P → Sheet) → ((part : P) → (put part).id ≡ sheet.id) → ((part : P) → (put part).name ≡ sheet.name) → slice_get b.sheets index ≡ Some sheet
      → (stepped : Stepped P) → LeavesSo HasOtherSheet b (put_in (with_sheet b index) (put_in put stepped))
  put_so index sheet put id name e (Ok done) = other_sheet index sheet (put done.0) b.styles e (id done.0) (name done.0)
  put_so index sheet put id name e (Err refusal) = tt

  grids : (index : ℕ) (f : Grid → Stepped Grid) → LeavesSo HasOtherSheet b (on_grid b index f)
  unfolding on_grid
  grids index f = found_so HasOtherSheet index _ (λ s e. put_so index s (λ (grid : Grid). let new : Sheet = record s { grid = grid } in new) (λ grid. refl) (λ grid. refl) e (f s.grid))

  on_tabs : (index : ℕ) (f : Tab → Stepped Tab) → LeavesSo HasOtherSheet b (on_tab b index f)
  unfolding on_tab
  on_tabs index f = found_so HasOtherSheet index _ (λ s e. put_so index s (λ (tab : Tab). let new : Sheet = record s { tab = tab } in new) (λ tab. refl) (λ tab. refl) e (f s.tab))

  with_new : (name : List ℕ) (scope : Option ℕ) (o : Option Body) → HasOtherLists b (with_new_definition b name scope o)
  with_new name scope None = refl
  with_new name scope (Some body) = refl

  without : (o : Option ℕ) → HasOtherLists b (changed_by (without_definition o) b)
  without None = refl
  without (Some index) = refl

  put : (u : Update) (has : Bool) (body : Formula) (o : Option ℕ) → HasOtherLists b (changed_with (keys_of_update b u) (with_update b u has body o) b)
  put u has body None = refl
  put u has body (Some index) = refl

  updated : (u : Update) (o : Option Body) → HasOtherLists b (with_body b u o)
  updated u None = refl
  updated u (Some body) = put u body.has_equals _ (updated_index b u)

  -- The commands: each step is of its kind. ----

  -- what is to be shown of a step; nothing, where it is one on a tab or a grid
  abbrev Fits : Action → Type 0
  Fits (Asks f) = Leaves b (f b)
  Fits (ChangesTab index f) = Unit {0}
  Fits (ChangesGrid index f) = Unit {0}
  Fits (ChangesCells f) = LeavesSo HasOtherSheet b (f b)
  Fits (ChangesSettings f) = LeavesSo HasOtherSettings b (f b)
  Fits (ChangesNotation f) = LeavesSo HasOtherNotation b (f b)
  Fits (ChangesLists f) = LeavesSo HasOtherLists b (f b)

  sheets_fit : (command : sheets.Sheets) → Fits (sheet_action command)
  unfolding add_sheet_step delete_by_id_step delete_by_name_step delete_sheet_step duplicate_sheet_step insert_sheet_step move_sheet_step new_sheet_id_step new_sheet_step properties_step rename_by_index_step rename_sheet_step
  sheets_fit (sheets.AddSheet name) = core_so HasOtherLists _ _ refl
  sheets_fit (sheets.InsertSheet name index id) = unless_so HasOtherLists _ _ _ refl
  sheets_fit sheets.NewSheet = unless_so HasOtherLists _ _ _ refl
  sheets_fit (sheets.DuplicateSheet sheet) = found_so HasOtherLists sheet _ (λ s e. unless_so HasOtherLists _ _ _ refl)
  sheets_fit (sheets.RenameSheet old new) = core_so HasOtherLists _ _ refl
  sheets_fit (sheets.RenameSheetByIndex sheet name) = core_so HasOtherLists _ _ refl
  sheets_fit (sheets.MoveSheet sheet to) = core_so HasOtherLists _ _ refl
  sheets_fit (sheets.DeleteSheet sheet) = core_so HasOtherLists _ _ refl
  sheets_fit (sheets.DeleteSheetByName name) = core_so HasOtherLists _ _ refl
  sheets_fit (sheets.DeleteSheetBySheetId id) = core_so HasOtherLists _ _ refl
  sheets_fit sheets.GetNewSheetId = leaves_core _
  sheets_fit sheets.GetWorksheetsProperties = refl

  definitions_fit : (command : definitions.Definitions) → Fits (definition_action command)
  unfolding new_definition_step delete_definition_step update_name_step would_capture_step valid_definition_step list_step
  definitions_fit (definitions.NewDefinedName name scope body) = core_so HasOtherLists _ _ (with_new name _ _)
  definitions_fit (definitions.DeleteDefinedName name scope) = core_so HasOtherLists _ _ (without _)
  definitions_fit (definitions.UpdateDefinedName update) = unless_so HasOtherLists _ _ _ (updated update _)
  definitions_fit (definitions.WouldCaptureName update) = leaves _ _
  definitions_fit (definitions.IsValidDefinedName name scope body) = leaves_core _
  definitions_fit definitions.GetDefinedNameList = leaves_core _

  notation_fits : (command : notation.Notation) → Fits (notation_action command)
  unfolding get_locale_step get_language_step get_timezone_step settings_step set_locale_step set_language_step set_timezone_step
  notation_fits (notation.SetLocale id) = core_so HasOtherNotation _ _ refl
  notation_fits (notation.SetLanguage id) = core_so HasOtherNotation _ _ refl
  notation_fits (notation.SetTimezone id) = unless_so HasOtherSettings _ _ _ refl
  notation_fits notation.GetLocale = refl
  notation_fits notation.GetLanguage = refl
  notation_fits notation.GetTimezone = refl
  notation_fits notation.GetFmtSettings = refl

  writing_fits : (command : writing.Writing) → LeavesSo HasOtherSheet b (writing_step b command)
  unfolding input_step text_step formula_step bool_step number_step
  writing_fits (writing.SetUserInput sheet row column text) = found_so HasOtherSheet sheet _ (λ s e. unless_so HasOtherSheet _ _ _ (other_sheet sheet s _ _ e refl refl))
  writing_fits (writing.UpdateCellWithText sheet row column text) = found_so HasOtherSheet sheet _ (λ s e. unless_so HasOtherSheet _ _ _ (other_sheet sheet s _ _ e refl refl))
  writing_fits (writing.UpdateCellWithFormula sheet row column text) = found_so HasOtherSheet sheet _ (λ s e. unless_so HasOtherSheet _ _ _ (other_sheet sheet s _ _ e refl refl))
  writing_fits (writing.UpdateCellWithBool sheet row column truth) = found_so HasOtherSheet sheet _ (λ s e. unless_so HasOtherSheet _ _ _ (other_sheet sheet s _ _ e refl refl))
  writing_fits (writing.UpdateCellWithNumber sheet row column amount) = found_so HasOtherSheet sheet _ (λ s e. unless_so HasOtherSheet _ _ _ (other_sheet sheet s _ _ e refl refl))

  reading_fits : (command : reading.Reading) → Leaves b (reading_step b command)
  unfolding cell_formula_step content_step formatted_step value_step value_by_ref_step type_step empty_step all_cells_step markup_step
  reading_fits (reading.GetCellFormula sheet row column) = leaves_core _
  reading_fits (reading.GetLocalizedCellContent sheet row column) = leaves_found (slice_get b.sheets sheet) (λ s. []) _
  reading_fits (reading.GetFormattedCellValue sheet row column) = leaves_found (slice_get b.sheets sheet) (λ s. []) _
  reading_fits (reading.GetCellValueByIndex sheet row column) = leaves_found (slice_get b.sheets sheet) (λ s. []) _
  reading_fits (reading.GetCellValueByRef text) = leaves _ _
  reading_fits (reading.GetCellType sheet row column) = leaves_found (slice_get b.sheets sheet) (λ s. []) _
  reading_fits (reading.IsEmptyCell sheet row column) = leaves_found (slice_get b.sheets sheet) (λ s. []) _
  reading_fits reading.GetAllCells = refl
  reading_fits (reading.GetSheetMarkup sheet) = leaves_found (slice_get b.sheets sheet) (λ s. []) _

  extending_fits : (command : extending.Extending) → Leaves b (extending_step b command)
  unfolding extend_step extend_copied_step parse_step
  extending_fits (extending.ExtendTo source row column) = leaves_found (slice_get b.sheets source.sheet) (λ s. []) _
  extending_fits (extending.ExtendCopiedValue text source target) = leaves _ _
  extending_fits (extending.ParseReference text) = refl

  styles_fit : (command : styles.Styles) → Fits (style_action command)
  unfolding style_index_step cell_style_step own_style_step column_style_step row_style_step set_column_step set_row_step
  styles_fit (styles.GetCellStyleIndex sheet row column) = leaves_found (slice_get b.sheets sheet) (λ s. []) _
  styles_fit (styles.GetStyleForCell sheet row column) = leaves_found (slice_get b.sheets sheet) (λ s. []) _
  styles_fit (styles.GetCellStyleOrNone sheet row column) = leaves_found (slice_get b.sheets sheet) (λ s. []) _
  styles_fit (styles.GetColumnStyle sheet column) = leaves_found (slice_get b.sheets sheet) (λ s. column_causes column) (λ s. optional_style b (column_of s.grid.columns column).style)
  styles_fit (styles.GetRowStyle sheet row) = leaves_found (slice_get b.sheets sheet) (λ s. row_causes row) (λ s. optional_style b (row_of s.grid.rows row).style)
  styles_fit (styles.SetColumnStyle sheet column style) = found_so HasOtherSheet sheet _ (λ s e. unless_so HasOtherSheet _ _ _ (other_sheet sheet s _ _ e refl refl))
  styles_fit (styles.SetRowStyle sheet row style) = found_so HasOtherSheet sheet _ (λ s e. unless_so HasOtherSheet _ _ _ (other_sheet sheet s _ _ e refl refl))
  styles_fit command = tt

  layout_fits : (command : layout.Layout) → Fits (layout_action command)
  unfolding get_width_step get_height_step column_hidden_step row_hidden_step
  layout_fits (layout.GetColumnWidth sheet column) = leaves_grid sheet (λ g. column_causes column) (λ g. number_field (width_of (finite.get g.columns column)))
  layout_fits (layout.GetRowHeight sheet row) = leaves_grid sheet (λ g. row_causes row) (λ g. number_field (height_of (finite.get g.rows row)))
  layout_fits (layout.IsColumnHidden sheet column) = leaves_grid sheet (λ g. column_causes column) (λ g. bool_field (column_of g.columns column).hidden)
  layout_fits (layout.IsRowHidden sheet row) = leaves_grid sheet (λ g. row_causes row) (λ g. bool_field (row_of g.rows row).hidden)
  layout_fits command = tt

  tabs_fit : (command : tabs.Tabs) → Fits (tab_action command)
  unfolding get_theme_step set_theme_step frozen_rows_step frozen_columns_step
  tabs_fit (tabs.SetTheme name) = refl
  tabs_fit tabs.GetTheme = refl
  tabs_fit (tabs.GetFrozenRowsCount sheet) = leaves_tab sheet (λ tab. []) _
  tabs_fit (tabs.GetFrozenColumnsCount sheet) = leaves_tab sheet (λ tab. []) _
  tabs_fit command = tt

  arrays_fit : (command : arrays.Arrays) → Fits (arrays_action command)
  unfolding array_step
  arrays_fit (arrays.SetUserArrayFormula sheet block text) = found_so HasOtherSheet sheet _ (λ s e. unless_so HasOtherSheet _ _ _ (other_sheet sheet s _ _ e refl refl))
  arrays_fit command = tt

  fits : (command : Command) → Fits (action command)
  fits (OnSheets command) = sheets_fit command
  fits (OnDefinitions command) = definitions_fit command
  fits (OnNotation command) = notation_fits command
  fits (OnWriting command) = writing_fits command
  fits (OnReading command) = reading_fits command
  fits (OnExtending command) = extending_fits command
  fits (OnStyles command) = styles_fit command
  fits (OnLayout command) = layout_fits command
  fits (OnTabs command) = tabs_fit command
  fits (OnArrays command) = arrays_fit command

  -- so it leaves what its kind says ----

  asked_so : (f : Book → Stepped Book) (stepped : Stepped Book) → Leaves b stepped → LeavesSo (IsLeftBy (Asks f)) b stepped
  asked_so f (Ok done) h = h
  asked_so f (Err refusal) h = tt

  passes : (One Other : Book → Book → Type 0) → ((left : Book) → One b left → Other b left) → (stepped : Stepped Book) → LeavesSo One b stepped → LeavesSo Other b stepped
  passes One Other more (Ok done) h = more done.0 h
  passes One Other more (Err refusal) h = tt

  by_kind : (a : Action) → Fits a → LeavesSo (IsLeftBy a) b (perform b a)
  by_kind (Asks f) h = asked_so f (f b) h
  by_kind (ChangesTab index f) h = passes HasOtherSheet (IsLeftBy (ChangesTab index f)) (λ left k. k) (on_tab b index f) (on_tabs index f)
  by_kind (ChangesGrid index f) h = passes HasOtherSheet (IsLeftBy (ChangesGrid index f)) (λ left k. k) (on_grid b index f) (grids index f)
  by_kind (ChangesCells f) h = passes HasOtherSheet (IsLeftBy (ChangesCells f)) (λ left k. k) (f b) h
  by_kind (ChangesSettings f) h = passes HasOtherSettings (IsLeftBy (ChangesSettings f)) (λ left k. k) (f b) h
  by_kind (ChangesNotation f) h = passes HasOtherNotation (IsLeftBy (ChangesNotation f)) (λ left k. k) (f b) h
  by_kind (ChangesLists f) h = passes HasOtherLists (IsLeftBy (ChangesLists f)) (λ left k. k) (f b) h

  pub left_by_kind : (command : Command) → LeavesSo (IsLeftBy (action command)) b (step b command)
  left_by_kind command = by_kind (action command) (fits command)

  -- No kind changes the tables. ----

  pub tables_left : (a : Action) (left : Book) → IsLeftBy a b left → left.tables ≡ b.tables
  tables_left (Asks f) left h = ap (λ (c : Book). c.tables) h
  tables_left (ChangesTab index f) left h = ap (λ (c : Book). c.tables) h.is
  tables_left (ChangesGrid index f) left h = ap (λ (c : Book). c.tables) h.is
  tables_left (ChangesCells f) left h = ap (λ (c : Book). c.tables) h.is
  tables_left (ChangesSettings f) left h = ap (λ (c : Book). c.tables) h
  tables_left (ChangesNotation f) left h = ap (λ (c : Book). c.tables) h
  tables_left (ChangesLists f) left h = ap (λ (c : Book). c.tables) h

  -- Only one changes the definitions.
  pub definitions_left : (a : Action) (left : Book) → leaves_lists a ≡ true → IsLeftBy a b left → left.definitions ≡ b.definitions
  definitions_left (ChangesLists f) left e h = absurd (cc)
  definitions_left (Asks f) left e h = ap (λ (c : Book). c.definitions) h
  definitions_left (ChangesTab index f) left e h = ap (λ (c : Book). c.definitions) h.is
  definitions_left (ChangesGrid index f) left e h = ap (λ (c : Book). c.definitions) h.is
  definitions_left (ChangesCells f) left e h = ap (λ (c : Book). c.definitions) h.is
  definitions_left (ChangesSettings f) left e h = ap (λ (c : Book). c.definitions) h
  definitions_left (ChangesNotation f) left e h = ap (λ (c : Book). c.definitions) h
