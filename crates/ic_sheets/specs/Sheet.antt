-- A sheet of a book: its formulas in their places, and what its cells, rows and columns hold.
use Rattle.std.specs.Prelude.{◌≡◌, ◌⊎◌, ℕ, pos, ◌<◌, List, [], flat_map, map, length, true, Ok, Option, Some, None, is_some, option_map, unwrap_or}
use Rattle.std.specs.Borrow.{MutBor}
use Rattle.std.specs.FinMap as finite
use Rattle.std.specs.Fn.{FnOnceReturnsAtMut, Once}
use Rattle.std.specs.List.{AllByRecursion, slice_get}
use Rattle.std.specs.Option.{option_to_list}
use Rattle.ic_laws.specs.CoreBook as core
use Rattle.ic_laws.specs.CoreBook.{CellPlace, Cells}
use Rattle.ic_laws.specs.CoreStep.{updated_at}
use Rattle.ic_laws.specs.Keeping.{kept_formula, same_keys}
use Rattle.ic_laws.specs.Notations.{Notations, english_function}
use Rattle.ic_laws.specs.ValidCore.{IsPooled}
use Rattle.ic_laws.specs.declared.scene.Scene.{Scene}
use Rattle.ic_laws.specs.declared.tree.Formula.{Formula}
use Rattle.ic_laws.specs.declared.tree.Formula.TheVariants as formulas
use Rattle.ic_cells.specs.Cell.{cell_formula_index}
use Rattle.ic_cells.specs.declared.cell.ArrayKind.TheVariants as arrays
use Rattle.ic_cells.specs.declared.cell.Cell.{Cell}
use Rattle.ic_cells.specs.declared.cell.Cell.TheVariants as cells
use Rattle.ic_cells.specs.declared.sheet.SheetState.TheVariants as states
use Rattle.ic_cells.specs.declared.style.Color.TheVariants as colors
use Rattle.ic_cells.specs.declared.style.Style.{Style}
use Rattle.ic_cells.specs.declared.value.FormulaValue.TheVariants as fvalues
use Rattle.ic_grid.specs.Block.{is_area, is_in_sheet}
use Rattle.ic_grid.specs.Calls.{can_write, can_write_array}
use Rattle.ic_grid.specs.Prepare.{written}
use Rattle.ic_grid.specs.Shape.{celled}
use Rattle.ic_grid.specs.Whole.{IsGrid}
use Rattle.ic_grid.specs.Written.{with_array}
use Rattle.ic_grid.specs.declared.block.Block.{Block}
use Rattle.ic_grid.specs.declared.grid.Grid.{Grid}
use Rattle.ic_pool.specs.Pool.{IsPlaced, PoolState}
use Rattle.ic_sheets.specs.declared.sheet.Entered.{Entered}
use Rattle.ic_sheets.specs.declared.sheet.FormulaKind.{FormulaKind}
use Rattle.ic_sheets.specs.declared.sheet.FormulaKind.TheVariants as kinds
use Rattle.ic_sheets.specs.declared.sheet.Sheet.{Sheet as HeldSheet}
use Rattle.ic_sheets.specs.declared.tab.Tab.{Tab}

-- a sheet that is seen, whose tab has no color, where nothing stays in sight and lines part the cells
abbrev pub plain_tab : Tab
plain_tab = record { state = states.Visible; color = colors.None; frozen_rows = pos 0; frozen_columns = pos 0; shows_grid_lines = true }

-- a sheet's id and name, its formulas in their places, its cells with its rows, columns and merged cells, and its tab
pub record Sheet : Type 0 where
  pub id : ℕ
  pub name : List ℕ
  pub pool : List Formula
  pub grid : Grid
  pub tab : Tab

-- a sheet without what it keeps to find formulas by
abbrev pub sheet_of : HeldSheet → Sheet
sheet_of sheet = record { id = sheet.id; name = sheet.name; pool = sheet.pool.formulas; grid = sheet.grid; tab = sheet.tab }

-- no cells and no merged cells, and nothing is set for a row or a column
abbrev pub empty_grid : Grid
empty_grid = record { cells = finite.empty; rows = finite.empty; columns = finite.empty; merged_cells = [] }

-- the cell of a formula without a value, by its index and the number of a style; one that may spill is an array of one cell
abbrev pub formula_cell : FormulaKind → ℕ → ℕ → Cell
formula_cell kinds.Single at style = cells.CellFormula at style fvalues.Unevaluated
formula_cell kinds.Dynamic at style = cells.ArrayFormula arrays.Dynamic at style (pos 1, pos 1) fvalues.Unevaluated

-- with a cell at a place, which is prepared first
abbrev pub with_cell_in : CellPlace → Cell → Grid → Grid
with_cell_in place cell grid = record grid { cells = written celled place cell grid.cells }

-- a cell may be written at a place of a sheet: it lies in the sheet, and no merged cells or array forbid it
pub record TakesCell (place : CellPlace) (grid : Grid) : Type 0 where
  pub whole : IsGrid grid
  pub inside : is_in_sheet place ≡ true
  pub free : can_write celled grid.merged_cells grid.cells place ≡ Ok tt

-- An array may be written into a block of a sheet: the block lies in the sheet, and no merged cells or array forbid it.
pub record TakesArray (block : Block) (grid : Grid) : Type 0 where
  pub whole : IsGrid grid
  pub area : is_area block ≡ true
  pub free : can_write_array celled grid.merged_cells grid.cells block ≡ Ok tt

-- the formulas of the sheet at an index, from 0, in their places; none past the end
abbrev pub pool_at : List HeldSheet → ℕ → List Formula
pool_at sheets index = unwrap_or (option_map (λ s. s.pool.formulas) (slice_get sheets index)) []

-- A cell of a sheet has got a formula, which has got its place among those that the sheet keeps.
abbrev pub IsWritten : Formula → FormulaKind → ℕ → CellPlace → HeldSheet → HeldSheet → Type 0
IsWritten formula kind style cell before after =
    (place : ℕ) × IsPlaced formula place before.pool.formulas after.pool.formulas
    × (after ≡ record before { pool = record { formulas = after.pool.formulas; is_whole = true }; grid = with_cell_in cell (formula_cell kind place style) before.grid })

-- The cell of a formula has been made, which has got its place in a pool whose look-up is whole.
abbrev pub MakesCell : PoolState → Entered → Cell → PoolState → Type 0
MakesCell before entered cell after =
    (place : ℕ) × IsPlaced entered.formula place before.formulas after.formulas × (after.is_whole ≡ true) × (cell ≡ formula_cell entered.kind place entered.style)

-- A cell of a sheet has got a formula where there was no cell; where there was one, this is left, and nothing has changed.
abbrev pub WritesNew : Entered → CellPlace → HeldSheet → HeldSheet → Option Entered → Type 0
WritesNew entered cell before after None = IsWritten entered.formula entered.kind entered.style cell before after
WritesNew entered cell before after (Some left) =
    (left ≡ entered) × (is_some (finite.get before.grid.cells cell) ≡ true) × (after ≡ before)

-- An array has been written into a block of a sheet: its formula has got its place among those that the sheet keeps, and
-- styles may have come.
abbrev pub IsArrayWritten : Formula → Block → List Style → List Style → HeldSheet → HeldSheet → Type 0
IsArrayWritten formula block styles left before after =
    (place : ℕ) × IsPlaced formula place before.pool.formulas after.pool.formulas
    × (after ≡ record before { pool = record { formulas = after.pool.formulas; is_whole = true }; grid = (with_array before.grid block place styles).0 })
    × (left ≡ (with_array before.grid block place styles).1)

-- the same of the sheet at an index, from 0, among others
abbrev pub WritesArrayAt : Formula → Block → List Style → List Style → ℕ → List HeldSheet → List HeldSheet → Type 0
WritesArrayAt formula block styles left index sheets list =
    (sheet : HeldSheet) × (pool : List Formula) × (place : ℕ) × (slice_get sheets index ≡ Some sheet) × IsPlaced formula place sheet.pool.formulas pool
    × (list ≡ updated_at (λ s. record s { pool = record { formulas = pool; is_whole = true }; grid = (with_array sheet.grid block place styles).0 }) index sheets)
    × (left ≡ (with_array sheet.grid block place styles).1)

-- a sheet whose look-up has all of its formulas
abbrev pub looking_up : HeldSheet → HeldSheet
looking_up sheet = record sheet { pool = record sheet.pool { is_whole = true } }

-- A sheet is as it was, but that its look-up may have all of its formulas now.
abbrev pub IsSameOrLooksUp : HeldSheet → HeldSheet → Type 0
IsSameOrLooksUp before after = (after ≡ before) ⊎ (after ≡ looking_up before)

-- Sheets are as they were, but that the look-up of the one at this index, from 0, may have all of its formulas now.
abbrev pub AreSameOrLookUp : ℕ → List HeldSheet → List HeldSheet → Type 0
AreSameOrLookUp index before after = (after ≡ before) ⊎ (after ≡ updated_at looking_up index before)

-- the formula at an index; past the end, an empty text
abbrev pub formula_in : List Formula → ℕ → Formula
formula_in pool at = unwrap_or (slice_get pool at) (formulas.Raw [])

-- each cell that has a formula, with it
abbrev pub cell_of : List Formula → CellPlace × Cell → Cells
cell_of pool entry = option_to_list (option_map (λ at. (entry.0, formula_in pool at)) (cell_formula_index entry.1))

abbrev pub cells_of : List Formula → List (CellPlace × Cell) → Cells
cells_of pool entries = flat_map (cell_of pool) entries

-- the sheet as a book's core has it
abbrev pub sheet_core : Sheet → core.Sheet
sheet_core sheet = record { id = sheet.id; name = sheet.name; cells = cells_of sheet.pool (finite.entries sheet.grid.cells) }

-- the formula of each cell is one of so many
abbrev pub HasIndexes : ℕ → Grid → Type 0
HasIndexes count grid = (place : CellPlace) (cell : Cell) (at : ℕ) → finite.get grid.cells place ≡ Some cell → cell_formula_index cell ≡ Some at → at < count

-- What holds of each formula that a sheet keeps, whether a cell has it or none; and each cell has one of them, or none.
pub record IsValidPool (n : Notations) (scene : Scene) (sheet : Sheet) : Type 0 where
  pub formulas : AllByRecursion (IsPooled n scene (Some sheet.id)) sheet.pool
  pub indexes : HasIndexes (length sheet.pool) sheet.grid

-- a sheet with each formula kept over a change of its book
abbrev pub kept_pool : Notations → Scene → Scene → Sheet → Sheet
kept_pool n before after sheet = record sheet { pool = map (kept_formula (english_function n) before after same_keys (Some sheet.id)) sheet.pool }

-- A change was called with the tab of the sheet at an index, from 0, answered this and left another there; all else is as
-- it was.
pub record ChangesTab {F T : Type 0} (calls : Once F (MutBor Tab × Unit {0}) (T × (MutBor Tab × Unit {0}))) (change : F) (index : ℕ) (result : T) (old new : List HeldSheet) : Type 0 where
  pub sheet : HeldSheet
  pub after : Tab
  pub there : slice_get old index ≡ Some sheet
  pub called : FnOnceReturnsAtMut calls change sheet.tab result after
  pub becomes : new ≡ updated_at (λ s. record s { tab = after }) index old

-- the same of its cells with its rows and columns
pub record ChangesGrid {F T : Type 0} (calls : Once F (MutBor Grid × Unit {0}) (T × (MutBor Grid × Unit {0}))) (change : F) (index : ℕ) (result : T) (old new : List HeldSheet) : Type 0 where
  pub sheet : HeldSheet
  pub after : Grid
  pub there : slice_get old index ≡ Some sheet
  pub called : FnOnceReturnsAtMut calls change sheet.grid result after
  pub becomes : new ≡ updated_at (λ s. record s { grid = after }) index old
