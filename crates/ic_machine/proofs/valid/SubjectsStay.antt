-- The commands of the subjects that leave contents, pools and names keep what always holds of a book.
use Rattle.std.proofs.Common.{◌≡◌, ℕ, ℤ, pos, List, [], ◌∷◌, length, Bool, true, false, Option, Some, None, refl, arith}
use Rattle.std.proofs.lemmas.Bool.{not-false}
use Rattle.std.proofs.lemmas.Int.{ints}
use Rattle.std.specs.FinMap as finite
use Rattle.std.specs.Prelude.{◌≤ℤ◌, ◌<ℤ◌, int_le, int_lt, not, unwrap_or}
use Rattle.ic_laws.specs.Command as commands
use Rattle.ic_laws.specs.CoreBook as core_book
use Rattle.ic_laws.specs.CoreStep as core
use Rattle.ic_laws.specs.CoreStep.{core_step}
use Rattle.ic_laws.specs.Position.{is_column, is_row}
use Rattle.ic_laws.specs.Refusal as refusals
use Rattle.ic_laws.specs.declared.reference.TheConstants.{LAST_COLUMN, LAST_ROW}
use Rattle.ic_cells.specs.declared.layout.ColumnProps.{ColumnProps}
use Rattle.ic_cells.specs.declared.layout.RowProps.{RowProps}
use Rattle.ic_tables.specs.Tables.{lists_zone}
use Rattle.ic_machine.specs.Book.{Book, Grid, Tab, as_core, core_of, notations_in, unless, unless_refused}
use Rattle.ic_machine.specs.Command.{OnExtending, OnLayout, OnNotation, OnReading, OnTabs}
use Rattle.ic_machine.specs.Kept.{StaysValid}
use Rattle.ic_machine.specs.Line.{column_causes, column_of, plain_column, plain_row, row_causes, row_of, with_column, with_row}
use Rattle.ic_machine.specs.Refusal.{FrozenNegative, InvalidColumn, InvalidRow, InvalidTimezone, Refusal, TooManyColumns, TooManyRows, first_refusal}
use Rattle.ic_machine.specs.Reply.{Field}
use Rattle.ic_machine.specs.Valid.{IsFrozen, IsStyleNumber, IsValidBook}
use Rattle.ic_machine.specs.subjects.Extending.{Extending, extending_step}
use Rattle.ic_machine.specs.subjects.Layout as layout
use Rattle.ic_machine.specs.subjects.Layout.{Layout, hide_column_step, hide_row_step, layout_step, set_height_step, set_width_step}
use Rattle.ic_machine.specs.subjects.Notation as notation
use Rattle.ic_machine.specs.subjects.Notation.{Notation, notation_step, set_language_step, set_locale_step, set_timezone_step}
use Rattle.ic_machine.specs.subjects.Reading.{Reading, reading_step}
use Rattle.ic_machine.specs.subjects.Tabs as tabs
use Rattle.ic_machine.specs.subjects.Tabs.{Tabs, color_step, freeze_columns_step, freeze_rows_step, grid_lines_step, set_theme_step, state_step, tab_step}
use Rattle.ic_machine.proofs.kinds.ReaderLemmas.{readers_leave}
use Rattle.ic_machine.proofs.valid.ValidLemmas.{AreLines, HasNewLines, LinesStay, TabStays, column_put, grids_stay, row_put, stays_leaving, stays_unless, tabs_stay}

-- what a book holds beside its notation, its zone, its theme and its name
pub with_notation : (b : Book) (locale language zone theme : List ℕ) → IsValidBook b → (notations_in b).knows_locale locale ≡ true → (notations_in b).knows_language language ≡ true → lists_zone b.tables zone ≡ true
    → IsValidBook (record b { locale = locale; language = language; zone = zone; theme = theme })
with_notation b locale language zone theme valid l g z = record {
  sheets = record { some = valid.sheets.some; few = valid.sheets.few };
  sheet_names = record { names = valid.sheet_names.names; differ = valid.sheet_names.differ };
  sheet_ids = record { ids = valid.sheet_ids.ids; differ = valid.sheet_ids.differ };
  definitions = record { names = valid.definitions.names; scopes = valid.definitions.scopes; differ = valid.definitions.differ };
  kept = record { pools = valid.kept.pools; bodies = valid.kept.bodies };
  inside = valid.inside;
  formulas = valid.formulas;
  styles = record { styles = valid.styles.styles; numbers = valid.styles.numbers };
  arrays = valid.arrays;
  merges = valid.merges;
  layout = valid.layout;
  amounts = valid.amounts;
  locale = l;
  language = g;
  zone = z;
  tables = valid.tables;
}

-- one cause that doesn't hold
pub not_caused : (bad : Bool) (refusal : Refusal) → first_refusal ((bad, refusal) ∷ []) ≡ None → bad ≡ false
not_caused true refusal e = cc
not_caused false refusal e = refl

two_not_caused : (bad worse : Bool) (one other : Refusal) → first_refusal ((bad, one) ∷ (worse, other) ∷ []) ≡ None → (bad ≡ false) × (worse ≡ false)
two_not_caused true worse one other e = cc
two_not_caused false true one other e = cc
two_not_caused false false one other e = (refl, refl)

-- a step of the identity machine with one cause
core_unless : (bad : Bool) (refusal : refusals.Refusal) (book : core_book.CoreBook) (fields : List commands.Field) (left : Book) → (bad ≡ false → IsValidBook left)
    → StaysValid (as_core (core.unless_refused (refusals.first_refusal ((bad, refusal) ∷ [])) book fields) left)
core_unless true refusal book fields left h = tt
core_unless false refusal book fields left h = h refl

pub notation_stays : (b : Book) (command : Notation) → IsValidBook b → StaysValid (notation_step b command)
unfolding set_locale_step set_language_step set_timezone_step core_step
notation_stays b (notation.SetLocale id) valid =
    core_unless (not ((notations_in b).knows_locale id)) refusals.InvalidLocale (record (core_of b) { locale = id }) [] (record b { locale = id })
    (λ e. with_notation b id b.language b.zone b.theme valid (not-false ((notations_in b).knows_locale id) e) valid.language valid.zone)
notation_stays b (notation.SetLanguage id) valid =
    core_unless (not ((notations_in b).knows_language id)) refusals.InvalidLanguage (record (core_of b) { language = id }) [] (record b { language = id })
    (λ e. with_notation b b.locale id b.zone b.theme valid valid.locale (not-false ((notations_in b).knows_language id) e) valid.zone)
notation_stays b (notation.SetTimezone id) valid =
    stays_unless _ (record b { zone = id }) []
    (λ e. with_notation b b.locale b.language id b.theme valid valid.locale valid.language (not-false (lists_zone b.tables id) (not_caused (not (lists_zone b.tables id)) InvalidTimezone e)))
notation_stays b command valid = stays_leaving b valid _ (readers_leave b (OnNotation command))

pub reading_stays : (b : Book) (command : Reading) → IsValidBook b → StaysValid (reading_step b command)
reading_stays b command valid = stays_leaving b valid _ (readers_leave b (OnReading command))

pub extending_stays : (b : Book) (command : Extending) → IsValidBook b → StaysValid (extending_step b command)
extending_stays b command valid = stays_leaving b valid _ (readers_leave b (OnExtending command))

-- tabs ----

tab_unless : (o : Option Refusal) (left : Tab) (fields : List Field) → (o ≡ None → IsFrozen left) → TabStays (unless o left fields)
tab_unless None left fields h = h refl
tab_unless (Some refusal) left fields h = tt

frozen : (count last : ℤ) → int_lt count (pos 0) ≡ false → int_le last count ≡ false → (pos 0 ≤ℤ count) × (count <ℤ last)
frozen count last p q = (omega (arith, ints), omega (arith, ints))

pub tabs_are : (b : Book) (command : Tabs) → IsValidBook b → StaysValid (tab_step b command)
unfolding set_theme_step freeze_rows_step freeze_columns_step color_step state_step grid_lines_step
tabs_are b (tabs.SetTheme name) valid = with_notation b b.locale b.language b.zone name valid valid.locale valid.language valid.zone
tabs_are b (tabs.SetFrozenRows sheet count) valid =
    tabs_stay b valid sheet (freeze_rows_step count)
    (λ tab h. tab_unless _ (record tab { frozen_rows = count }) []
    (λ e.
    let parts = two_not_caused (int_lt count (pos 0)) (int_le LAST_ROW count) FrozenNegative TooManyRows e in
    let is = frozen count LAST_ROW parts.0 parts.1 in
    record { some_rows = is.0; few_rows = is.1; some_columns = h.some_columns; few_columns = h.few_columns }))
tabs_are b (tabs.SetFrozenColumns sheet count) valid =
    tabs_stay b valid sheet (freeze_columns_step count)
    (λ tab h. tab_unless _ (record tab { frozen_columns = count }) []
    (λ e.
    let parts = two_not_caused (int_lt count (pos 0)) (int_le LAST_COLUMN count) FrozenNegative TooManyColumns e in
    let is = frozen count LAST_COLUMN parts.0 parts.1 in
    record { some_rows = h.some_rows; few_rows = h.few_rows; some_columns = is.0; few_columns = is.1 }))
tabs_are b (tabs.SetSheetColor sheet color) valid =
    tabs_stay b valid sheet (color_step color) (λ tab h. record { some_rows = h.some_rows; few_rows = h.few_rows; some_columns = h.some_columns; few_columns = h.few_columns })
tabs_are b (tabs.SetSheetState sheet state) valid =
    tabs_stay b valid sheet (state_step state) (λ tab h. record { some_rows = h.some_rows; few_rows = h.few_rows; some_columns = h.some_columns; few_columns = h.few_columns })
tabs_are b (tabs.SetShowGridLines sheet shows) valid =
    tabs_stay b valid sheet (grid_lines_step shows) (λ tab h. record { some_rows = h.some_rows; few_rows = h.few_rows; some_columns = h.some_columns; few_columns = h.few_columns })
tabs_are b command valid = stays_leaving b valid _ (readers_leave b (OnTabs command))

-- layout ----

pub lines_unless : (count : ℕ) (grid : Grid) (o : Option Refusal) (left : Grid) (fields : List Field) → (o ≡ None → HasNewLines count grid left) → LinesStay count grid (unless o left fields)
lines_unless count grid None left fields h = h refl
lines_unless count grid (Some refusal) left fields h = tt

plain_or : (count : ℕ) (P : RowProps → Type 0) (o : Option RowProps) → P plain_row → ((props : RowProps) → o ≡ Some props → P props) → P (unwrap_or o plain_row)
plain_or count P None p h = p
plain_or count P (Some props) p h = h props refl

plain_or_column : (count : ℕ) (P : ColumnProps → Type 0) (o : Option ColumnProps) → P plain_column → ((props : ColumnProps) → o ≡ Some props → P props) → P (unwrap_or o plain_column)
plain_or_column count P None p h = p
plain_or_column count P (Some props) p h = h props refl

module _ (count : ℕ) (grid : Grid) (lines : AreLines count grid.rows grid.columns) where
  row_style : (row : ℤ) → IsStyleNumber count (row_of grid.rows row).style
  row_style row = plain_or count (λ props. IsStyleNumber count props.style) (finite.get grid.rows row) tt (λ props e. lines.row_styles row props e)

  column_style : (column : ℤ) → IsStyleNumber count (column_of grid.columns column).style
  column_style column = plain_or_column count (λ props. IsStyleNumber count props.style) (finite.get grid.columns column) tt (λ props e. lines.column_styles column props e)

  row_changed : (row : ℤ) (change : RowProps → RowProps) (fields : List Field) → IsStyleNumber count (change (row_of grid.rows row)).style
      → LinesStay count grid (unless_refused (row_causes row) (record grid { rows = with_row row change grid.rows }) fields)
  row_changed row change fields style =
      lines_unless count grid (first_refusal (row_causes row)) (record grid { rows = with_row row change grid.rows }) fields
      (λ e. record {
        rows = with_row row change grid.rows;
        columns = grid.columns;
        is = refl;
        lines = row_put count grid.rows grid.columns lines row (change (row_of grid.rows row)) (not-false (is_row row) (not_caused (not (is_row row)) InvalidRow e)) style;
      })

  column_changed : (column : ℤ) (change : ColumnProps → ColumnProps) (fields : List Field) → IsStyleNumber count (change (column_of grid.columns column)).style
      → LinesStay count grid (unless_refused (column_causes column) (record grid { columns = with_column column change grid.columns }) fields)
  column_changed column change fields style =
      lines_unless count grid (first_refusal (column_causes column)) (record grid { columns = with_column column change grid.columns }) fields
      (λ e. record {
        rows = grid.rows;
        columns = with_column column change grid.columns;
        is = refl;
        lines = column_put count grid.rows grid.columns lines column (change (column_of grid.columns column)) (not-false (is_column column) (not_caused (not (is_column column)) InvalidColumn e)) style;
      })

pub layout_stays : (b : Book) (command : Layout) → IsValidBook b → StaysValid (layout_step b command)
unfolding set_width_step set_height_step hide_column_step hide_row_step
layout_stays b (layout.SetColumnWidth sheet column width) valid =
    grids_stay b valid sheet (set_width_step column width) (λ grid l. column_changed (length b.styles) grid l column (λ props. record props { width = Some width }) [] (column_style (length b.styles) grid l column))
layout_stays b (layout.SetRowHeight sheet row height) valid =
    grids_stay b valid sheet (set_height_step row height) (λ grid l. row_changed (length b.styles) grid l row (λ props. record props { height = Some height }) [] (row_style (length b.styles) grid l row))
layout_stays b (layout.SetColumnHidden sheet column hidden) valid =
    grids_stay b valid sheet (hide_column_step column hidden) (λ grid l. column_changed (length b.styles) grid l column (λ props. record props { hidden = hidden }) [] (column_style (length b.styles) grid l column))
layout_stays b (layout.SetRowHidden sheet row hidden) valid =
    grids_stay b valid sheet (hide_row_step row hidden) (λ grid l. row_changed (length b.styles) grid l row (λ props. record props { hidden = hidden }) [] (row_style (length b.styles) grid l row))
layout_stays b command valid = stays_leaving b valid _ (readers_leave b (OnLayout command))
