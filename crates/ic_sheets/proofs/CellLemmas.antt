-- A formula is written into a cell: the places of cells as the code has them, and what stands where then.
use Rattle.std.proofs.Common.{◌≡◌, ◌∙◌, ℕ, ℤ, SFits, to_z, of_z, w32, Some, None, Bool, true, is_some, Option, sym, ap, ap₂, subst}
use Rattle.std.specs.FinMap as finite
use Rattle.std.specs.Prelude.{option_and_then}
use Rattle.ic_laws.specs.CoreBook.{CellPlace}
use Rattle.ic_laws.specs.declared.tree.Formula.{Formula}
use Rattle.ic_cells.specs.Made.{PutsMade}
use Rattle.ic_cells.specs.declared.cell.Cell.{Cell}
use Rattle.ic_grid.specs.Arrays.{anchor_of}
use Rattle.ic_grid.specs.Block.{Place, block_at}
use Rattle.ic_grid.specs.Contents.{Contents}
use Rattle.ic_grid.specs.Prepare.{released_if, written}
use Rattle.ic_grid.specs.Shape.{celled, shape_of}
use Rattle.ic_grid.specs.declared.grid.Grid.{Grid}
use Rattle.ic_pool.specs.Pool.{IsPlaced, PoolState}
use Rattle.ic_sheets.specs.Sheet.{IsWritten, MakesCell, TakesCell, WritesNew, formula_cell, with_cell_in}
use Rattle.ic_sheets.specs.declared.sheet.Entered.{Entered}
use Rattle.ic_sheets.specs.declared.sheet.FormulaKind.{FormulaKind}
use Rattle.ic_sheets.specs.declared.sheet.Sheet.{Sheet}
use Rattle.ic_cells.proofs.MapLemmas.{stored_pair}

-- a block as it is stored
pub stored_block : (row column width height : ℤ) → SFits w32 row → SFits w32 column → SFits w32 width → SFits w32 height
    → block_at (to_z w32 (of_z w32 row), to_z w32 (of_z w32 column)) (to_z w32 (of_z w32 width)) (to_z w32 (of_z w32 height)) ≡ block_at (row, column) width height
stored_block row column width height r c w h = ap₂ (λ (p size : Place). block_at p size.0 size.1) (stored_pair row column r c) (stored_pair width height w h)

-- a sheet whose look-up was made whole first, and then a cell written
pub written_whole : (formula : Formula) (kind : FormulaKind) (style : ℕ) (stored k : CellPlace) (sheet after : Sheet) (whole : PoolState) → stored ≡ k → whole ≡ record { formulas = sheet.pool.formulas; is_whole = true }
    → IsWritten formula kind style stored (record sheet { pool = whole }) after → IsWritten formula kind style k sheet after
written_whole formula kind style stored k sheet after whole same is h =
    subst (λ q. IsWritten formula kind style q sheet after) same (subst (λ pool. IsWritten formula kind style stored (record sheet { pool = pool }) after) is h)

pub is_written : (formula : Formula) (kind : FormulaKind) (style : ℕ) (k : CellPlace) (sheet : Sheet) (pool : PoolState) (grid : Grid) (place : ℕ) → IsPlaced formula place sheet.pool.formulas pool.formulas → pool.is_whole ≡ true
    → grid ≡ with_cell_in k (formula_cell kind place style) sheet.grid → IsWritten formula kind style k sheet (record sheet { pool = pool; grid = grid })
is_written formula kind style k sheet pool grid place placed whole put =
    (place, placed, ap₂ (λ (b : Bool) (g : Grid). let after : Sheet = record sheet { pool = record { formulas = pool.formulas; is_whole = b }; grid = g } in after) whole put)

-- what is written where no cell was is put there
written_new : (m : Contents Cell) (k : CellPlace) (x : Cell) → finite.get m k ≡ None → written celled k x m ≡ finite.insert m k x
written_new m k x none = ap (λ (c : Contents Cell). finite.insert c k x) (ap (λ o. released_if celled o m) (ap (option_and_then (λ y. anchor_of k (shape_of y))) none))

pub all_as_before : (sheet : Sheet) (pool : PoolState) (cells : Contents Cell) → pool ≡ sheet.pool → cells ≡ sheet.grid.cells → ◌≡◌ {A = Sheet} (record sheet { pool = pool; grid = record sheet.grid { cells = cells } }) sheet
all_as_before sheet pool cells same there = ap₂ (λ (p : PoolState) (c : Contents Cell). let after : Sheet = record sheet { pool = p; grid = record sheet.grid { cells = c } } in after) same there

-- the cell of a formula is put where none was, or nothing has changed
pub put_written : (entered : Entered) (stored k : CellPlace) (sheet : Sheet) (pool : PoolState) (cells : Contents Cell) (left : Option Entered) → stored ≡ k → PutsMade MakesCell stored entered sheet.pool pool sheet.grid.cells cells left
    → WritesNew entered k sheet (record sheet { pool = pool; grid = record sheet.grid { cells = cells } }) left
put_written entered stored k sheet pool cells None same h =
    is_written entered.formula entered.kind entered.style k sheet pool (record sheet.grid { cells = cells }) h.1.0 h.1.1 h.1.2
    (ap (λ (c : Contents Cell). let grid : Grid = record sheet.grid { cells = c } in grid)
    (h.3 ∙ ap₂ (finite.insert sheet.grid.cells) same h.1.3 ∙ sym (written_new sheet.grid.cells k (formula_cell entered.kind h.1.0 entered.style) (ap (finite.get sheet.grid.cells) (sym same) ∙ h.2))))
put_written entered stored k sheet pool cells (Some left) same h = (h.0, ap (λ q. is_some (finite.get sheet.grid.cells q)) (sym same) ∙ h.1, all_as_before sheet pool cells h.2 h.3)

-- a sheet that was left as it was by that, once its look-up was made whole
module _ (entered left : Entered) (stored : CellPlace) (sheet between : Sheet) (whole : PoolState) (made : whole ≡ record { formulas = sheet.pool.formulas; is_whole = true }) (h : WritesNew entered stored (record sheet { pool = whole }) between (Some left)) where
  pub still_whole : between.pool.is_whole ≡ true
  still_whole = ap (λ (s : Sheet). s.pool.is_whole) h.2 ∙ ap (λ (p : PoolState). p.is_whole) made

  pub still_takes : (k : CellPlace) → stored ≡ k → TakesCell k sheet.grid → TakesCell stored between.grid
  still_takes k same takes = subst (λ (s : Sheet). TakesCell stored s.grid) (sym h.2) (subst (λ q. TakesCell q sheet.grid) (sym same) takes)

  pub still_there : is_some (finite.get between.grid.cells stored) ≡ true
  still_there = ap (λ (s : Sheet). is_some (finite.get s.grid.cells stored)) h.2 ∙ h.1

  pub written_over : (k : CellPlace) (after : Sheet) → stored ≡ k → IsWritten left.formula left.kind left.style stored between after → IsWritten entered.formula entered.kind entered.style k sheet after
  written_over k after same w =
      written_whole entered.formula entered.kind entered.style stored k sheet after whole same made
      (subst (λ (b : Sheet). IsWritten entered.formula entered.kind entered.style stored b after) h.2 (subst (λ (e : Entered). IsWritten e.formula e.kind e.style stored between after) h.0 w))
