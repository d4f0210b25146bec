-- What the sheets and the definitions of a workbook that is handed in get, by what its formulas can mention; and what is
-- asked of sheets that have got it.
use Rattle.std.specs.Prelude.{◌≡◌, ℕ, ℤ, List, map, false, pos, ◌≤ℤ◌, ◌<ℤ◌}
use Rattle.std.specs.List.{AllByRecursion}
use Rattle.ic_laws.specs.CoreBook.{Definition}
use Rattle.ic_laws.specs.CoreStep.{updated_at}
use Rattle.ic_laws.specs.declared.scene.Scene.{Scene}
use Rattle.ic_laws.specs.declared.tree.Formula.{Formula}
use Rattle.ic_tables.specs.Tables.{TableSet}
use Rattle.ic_cells.specs.declared.sheet.Worksheet.{Worksheet}
use Rattle.ic_cells.specs.declared.style.Style.{Style}
use Rattle.ic_cells.specs.declared.workbook.DefinedName.{DefinedName}
use Rattle.ic_cells.specs.declared.workbook.Workbook.{Workbook}
use Rattle.ic_grid.specs.Conditions.{AreArrays, AreInSheet, AreLinesInSheet, AreMerges}
use Rattle.ic_grid.specs.Shape.{celled}
use Rattle.ic_grid.specs.Whole.{IsStyled}
use Rattle.ic_grid.specs.declared.grid.Grid.{Grid}
use Rattle.ic_machine.specs.Alike.{seen_by}
use Rattle.ic_machine.specs.Valid as valid
use Rattle.ic_pool.specs.Pool.{PoolState}
use Rattle.ic_sheets.specs.Records.{started}
use Rattle.ic_sheets.specs.declared.sheet.Sheet.{Sheet as HeldSheet}
use Rattle.ic_sheets.specs.declared.tab.Tab.{Tab}
use Rattle.ic_workbooks.specs.Asked.{unread}
use Rattle.ic_parts.specs.Book.{whole_tab}
use Rattle.ic_workbooks.specs.HandedIn.{IsFormula, formula_or_none, scene_of}
use Rattle.ic_workbooks.specs.Numbered.{renumbered}
use Rattle.ic_workbooks.specs.Referring.{HasCellFormulas}
use Rattle.ic_parts.specs.Scene.{scene_of_parts}
use Rattle.ic_workbooks.specs.Texts.{record_body_in, sheet_formula_in}
use Rattle.ic_workbooks.specs.declared.asked.sheets.SheetCondition.{SheetCondition}
use Rattle.ic_workbooks.specs.declared.asked.sheets.SheetCondition.TheVariants as conditions
use Rattle.ic_parts.specs.declared.contents.Contents.{Contents}

-- ---- what a sheet gets

-- its cells, with the numbers of their strings, its rows, columns and merged cells
abbrev pub numbered_grid : List ℕ → Worksheet → Grid
numbered_grid numbers s = record { cells = seen_by (renumbered numbers) s.cells; rows = s.rows; columns = s.columns; merged_cells = s.merged_cells }

-- how it is presented
abbrev pub record_tab : Worksheet → Tab
record_tab s = record {
  state = s.state;
  color = s.color;
  frozen_rows = s.frozen_rows;
  frozen_columns = s.frozen_columns;
  shows_grid_lines = s.show_grid_lines;
}

module _ (tables : TableSet) (scene : Scene) where
  -- each text of its formulas reads and is the formula's own
  abbrev pub HasSheetTexts : Worksheet → Type 0
  HasSheetTexts s = AllByRecursion (λ text. IsFormula (sheet_formula_in tables scene s.sheet_id text)) s.shared_formulas

  -- its formulas, none of which the look-up has yet
  abbrev pub pool_read : Worksheet → PoolState
  pool_read s = record { formulas = map (λ text. formula_or_none (sheet_formula_in tables scene s.sheet_id text)) s.shared_formulas; is_whole = false }

  -- a sheet that gets all of this
  abbrev pub filled_with : List ℕ → Worksheet → HeldSheet → HeldSheet
  filled_with numbers s sheet = record sheet { pool = pool_read s; grid = numbered_grid numbers s; tab = record_tab s }

  -- the sheet that its record makes
  abbrev pub filled : List ℕ → Worksheet → HeldSheet
  filled numbers s = filled_with numbers s (started s)

  -- ---- what a definition gets

  -- the text of its body reads and is the body's own
  abbrev pub HasBodyText : DefinedName → Type 0
  HasBodyText name = IsFormula (record_body_in tables scene name)

  -- its body
  abbrev pub body_read : DefinedName → Formula
  body_read name = formula_or_none (record_body_in tables scene name)

  -- the definition that its record makes
  abbrev pub defined : DefinedName → Definition
  defined name = record (unread name) { body = body_read name }

-- ---- steps

-- what the formulas of these contents can mention
abbrev pub contents_scene : Contents → Scene
contents_scene c = scene_of_parts c.sheets c.definitions

-- The sheet at an index gets what its record has.
pub record FillsSheet (tables : TableSet) (numbers : List ℕ) (index : ℕ) (s : Worksheet) (before after : Contents) : Type 0 where
  pub texts : HasSheetTexts tables (contents_scene before) s
  pub sheets : after.sheets ≡ updated_at (filled_with tables (contents_scene before) numbers s) index before.sheets
  pub definitions : after.definitions ≡ before.definitions

-- All sheets do.
pub record FillsSheets (tables : TableSet) (numbers : List ℕ) (ws : List Worksheet) (before after : Contents) : Type 0 where
  pub texts : AllByRecursion (HasSheetTexts tables (contents_scene before)) ws
  pub sheets : after.sheets ≡ map (filled tables (contents_scene before) numbers) ws
  pub definitions : after.definitions ≡ before.definitions

-- The definition at an index gets its body; and all do.
pub record FillsDefinition (tables : TableSet) (index : ℕ) (name : DefinedName) (before after : Contents) : Type 0 where
  pub text : HasBodyText tables (contents_scene before) name
  pub definitions : after.definitions ≡ updated_at (λ (d : Definition). record d { body = body_read tables (contents_scene before) name }) index before.definitions
  pub sheets : after.sheets ≡ before.sheets

pub record FillsDefinitions (tables : TableSet) (names : List DefinedName) (before after : Contents) : Type 0 where
  pub texts : AllByRecursion (HasBodyText tables (contents_scene before)) names
  pub definitions : after.definitions ≡ map (defined tables (contents_scene before)) names
  pub sheets : after.sheets ≡ before.sheets

-- ---- what is asked of a sheet that has got it

-- a count that leaves one in sight
pub record IsCountBelow (count last : ℤ) : Type 0 where
  pub some : pos 0 ≤ℤ count
  pub few : count <ℤ last

-- fewer rows and columns stay in sight than there are, and something was set for its own rows and columns alone
pub record IsLaidOut (sheet : HeldSheet) : Type 0 where
  pub frozen : valid.IsFrozen (whole_tab sheet.tab)
  pub lines : AreLinesInSheet sheet.grid.rows sheet.grid.columns

abbrev pub IsMet : SheetCondition → List Style → HeldSheet → Type 0
IsMet conditions.Places styles sheet = AreInSheet celled sheet.grid.cells
IsMet conditions.Formulas styles sheet = HasCellFormulas sheet.pool.formulas sheet.grid.cells
IsMet conditions.Styles styles sheet = IsStyled styles sheet.grid
IsMet conditions.Arrays styles sheet = AreArrays celled sheet.grid.cells
IsMet conditions.Merges styles sheet = AreMerges celled sheet.grid.cells sheet.grid.merged_cells
IsMet conditions.Layout styles sheet = IsLaidOut sheet

-- by its number
abbrev pub sheet_number : SheetCondition → ℕ
sheet_number conditions.Places = 6
sheet_number conditions.Formulas = 7
sheet_number conditions.Styles = 9
sheet_number conditions.Arrays = 10
sheet_number conditions.Merges = 11
sheet_number conditions.Layout = 12

-- ---- the sheets of a workbook

-- these are the sheets that the records of a workbook make
abbrev pub AreFilled : Workbook → TableSet → List ℕ → List HeldSheet → Type 0
AreFilled w tables numbers sheets = sheets ≡ map (filled tables (scene_of w) numbers) w.worksheets
