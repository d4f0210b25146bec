-- What writing a formula into a cell, or asking for its place, does to a whole book, and what refuses it.
use Rattle.std.specs.Prelude.{◌≡◌, ℕ, ℤ, List, [], ◌∷◌, not, Option, Some, None, option_map, unwrap_or, if◌then◌else◌}
use Rattle.std.specs.List.{slice_get}
use Rattle.ic_laws.specs.CoreBook.{CellPlace}
use Rattle.ic_laws.specs.CoreStep.{updated_at}
use Rattle.ic_laws.specs.FormulaReading.{cell_formula}
use Rattle.ic_laws.specs.Position.{is_column, is_row}
use Rattle.ic_laws.specs.declared.tree.Formula.{Formula}
use Rattle.ic_tables.specs.declared.language.FunctionKind.{FunctionKind}
use Rattle.ic_cells.specs.declared.cell.Cell.{Cell}
use Rattle.ic_cells.specs.declared.style.Style.{Style}
use Rattle.ic_grid.specs.Arrays.{is_fixed_at}
use Rattle.ic_grid.specs.Merges.{is_covered}
use Rattle.ic_grid.specs.Shape.{celled}
use Rattle.ic_grid.specs.Style.{style_at}
use Rattle.ic_grid.specs.declared.grid.Grid.{Grid}
use Rattle.ic_machine.specs.Book as machine
use Rattle.ic_machine.specs.Book.{Stepped}
use Rattle.ic_machine.specs.Placed.{is_dynamic}
use Rattle.ic_machine.specs.Refusal.{ArrayPart, Causes, InvalidColumn, InvalidRow, InvalidSheet, MergedPart, Refusal, first_refusal}
use Rattle.ic_machine.specs.Styling.{Numbered, restyled}
use Rattle.ic_machine.specs.subjects.Writing.{formula_at_place, formula_written, unquoted, write_step}
use Rattle.ic_pool.specs.Pool.{IsPlaced}
use Rattle.ic_sheets.specs.Sheet.{Sheet, formula_cell, with_cell_in}
use Rattle.ic_sheets.specs.declared.sheet.FormulaKind.{FormulaKind}
use Rattle.ic_sheets.specs.declared.sheet.FormulaKind.TheVariants as kinds
use Rattle.ic_parts.specs.Book.{Book, core_of, notations_in}

-- the pool of the sheet at an index
abbrev pub pool_at : Book → ℕ → List Formula
pool_at book index = unwrap_or (option_map (λ (s : Sheet). s.pool) (slice_get book.sheets index)) []

-- with this pool for the sheet at an index
abbrev pub with_pool : ℕ → List Formula → Book → Book
with_pool index pool book = record book { sheets = updated_at (λ s. record s { pool = pool }) index book.sheets }

-- and with a cell at a place of that sheet, and these styles
abbrev pub with_cell : ℕ → List Formula → CellPlace → Cell → List Style → Book → Book
with_cell index pool place cell styles book =
    record book { sheets = updated_at (λ s. record s { pool = pool; grid = with_cell_in place cell s.grid }) index book.sheets; styles = styles }

-- What a text writes. ----

-- the formula of a body, which stands after an equals sign, in a cell
abbrev pub written_formula : Book → Sheet → CellPlace → List ℕ → Formula
written_formula book s place body = cell_formula (notations_in book) (core_of book) s.id place.0 place.1 body

-- whether it may spill
abbrev pub kind_of : List FunctionKind → Formula → FormulaKind
kind_of functions formula = if is_dynamic functions formula then kinds.Dynamic else kinds.Single

-- the style that a place shows, without its quote flag
abbrev pub written_style : Book → Sheet → CellPlace → Numbered
written_style book s place = restyled unquoted (style_at celled s.grid.cells s.grid.rows s.grid.columns place) book.styles

-- The formula of a body is written into a cell of a sheet: it has got its place among those that the sheet keeps.
pub record WritesFormula (index : ℕ) (s : Sheet) (place : CellPlace) (body : List ℕ) (old new : Book) : Type 0 where
  pub pool : List Formula
  pub at : ℕ
  pub placed : IsPlaced (written_formula old s place body) at s.pool pool
  pub is : new ≡ with_cell index pool place (formula_cell (kind_of old.tables.kinds (written_formula old s place body)) at (written_style old s place).number) (written_style old s place).styles old

-- What refuses it. ----

abbrev pub cell_causes : Grid → CellPlace → Causes
cell_causes grid place = (is_covered grid.merged_cells place, MergedPart) ∷ (is_fixed_at celled grid.cells place, ArrayPart) ∷ []

abbrev pub value_causes : Grid → CellPlace → Causes
value_causes grid place = (not (is_row place.0), InvalidRow) ∷ (not (is_column place.1), InvalidColumn) ∷ cell_causes grid place

-- by the sheet, if there is one
abbrev pub value_refusal_in : CellPlace → Option Sheet → Option Refusal
value_refusal_in place None = Some InvalidSheet
value_refusal_in place (Some s) = first_refusal (value_causes s.grid place)

abbrev pub value_refusal : Book → ℕ → ℤ → ℤ → Option Refusal
value_refusal book index row column = value_refusal_in (row, column) (slice_get book.sheets index)

-- The machine's step. ----

-- a formula of this body is written
abbrev pub put_formula_step : machine.Book → ℕ → CellPlace → List ℕ → Stepped machine.Book
put_formula_step book index place body = write_step book index place (λ sheet. formula_written book sheet (formula_at_place book sheet place body)) []
