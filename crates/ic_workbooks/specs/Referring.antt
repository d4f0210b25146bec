-- Where the references of a formula lie, as a test; and which cells of a sheet have a formula that refers inside there.
use Rattle.std.specs.Prelude.{◌≡◌, ◌||◌, ℤ, List, Bool, false, not, Some}
use Rattle.std.specs.FinMap as finite
use Rattle.std.specs.List.{list_any}
use Rattle.ic_laws.specs.CoreBook.{CellPlace}
use Rattle.ic_laws.specs.Position.{is_inside}
use Rattle.ic_laws.specs.Tree.{Bound}
use Rattle.ic_laws.specs.declared.tree.Formula.{Formula}
use Rattle.ic_laws.specs.declared.tree.NameMention.{NameMention}
use Rattle.ic_laws.specs.declared.tree.SheetMention.{SheetMention}
use Rattle.ic_laws.specs.declared.tree.Tree.{Tree-F, fold-Tree}
use Rattle.ic_laws.specs.declared.tree.Tree.TheOpen as one
use Rattle.ic_cells.specs.Cell.{cell_formula_index}
use Rattle.ic_cells.specs.declared.cell.Cell.{Cell}
use Rattle.ic_grid.specs.Contents.{Contents}
use Rattle.ic_workbooks.specs.HandedIn.{HasFormulaAt}

-- some reference of a formula lies outside the sheet, at the cell at a row and a column
module _ (row column : ℤ) where
  abbrev pub outside_step : Tree-F SheetMention NameMention Bool Bool → Bool
  outside_step (one.Reference sheet place) = not (is_inside place row column)
  outside_step (one.Paren x) = x
  outside_step (one.Prefix sign x) = x
  outside_step (one.Percent x) = x
  outside_step (one.Spill x) = x
  outside_step (one.Binary sign a b) = a || b
  outside_step (one.Fun number arguments) = list_any (λ b. b) arguments
  outside_step (one.Call word arguments) = list_any (λ b. b) arguments
  outside_step (one.Let pairs body) = list_any (λ b. b) pairs || body
  outside_step (one.Lambda parameters body) = body
  outside_step (one.Apply x arguments) = x || list_any (λ b. b) arguments
  outside_step kind = false

  abbrev pub some_outside : Bound → Bool
  some_outside t = fold-Tree SheetMention NameMention Bool Bool outside_step (λ pair. pair.value) t

-- the formula of each cell that has one is one of a pool, and refers inside at the cell's place
abbrev pub HasCellFormulas : List Formula → Contents Cell → Type 0
HasCellFormulas pool cells = (place : CellPlace) (cell : Cell) → finite.get cells place ≡ Some cell → HasFormulaAt pool place (cell_formula_index cell)
