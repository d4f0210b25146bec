-- The formulas of a sheet's cells, as a book lends them.
use Rattle.std.proofs.Common.{◌≡◌, ◌++◌, ◌∷◌, [], ◌∙◌, ℕ, List, Option, Some, None, ap, ap₂, get_or, length, option_and_then, option_map, refl, slice_get, sym, unwrap_or}
use Rattle.std.proofs.lemmas.Option.{slice_get-get_or}
use Rattle.std.specs.BTreeMap as tree
use Rattle.std.specs.BTreeMap.{BTreeMap}
use Rattle.std.specs.FinMap as finite
use Rattle.std.specs.List.{AllByRecursion}
use Rattle.std.specs.Option.{option_to_list}
use Rattle.std.specs.Prelude.{flat_map}
use Rattle.ic_laws.proofs.core.CellWritten.{place_cmp_total}
use Rattle.ic_laws.specs.CoreBook.{CellPlace, Cells}
use Rattle.ic_laws.specs.declared.tree.Formula.{Formula}
use Rattle.ic_laws.specs.declared.tree.Formula.TheVariants as formulas
use Rattle.ic_cells.specs.Cell.{cell_formula_index}
use Rattle.ic_cells.specs.Maps.{place_cmp}
use Rattle.ic_cells.specs.declared.cell.Cell.{Cell}
use Rattle.ic_grid.specs.declared.grid.Grid.{Grid}
use Rattle.ic_machine.proofs.as_core.CoreValid.{each_found}
use Rattle.ic_sheets.proofs.PoolLemmas.{IsBelow}
use Rattle.ic_sheets.specs.Sheet.{HasIndexes, cells_of, formula_in}
use Rattle.ic_parts.proofs.CellReads.{same_entries}
use Rattle.ic_parts.specs.Lent.{kept_in}
use Rattle.ic_parts.proofs.WrittenLemmas.{below}

module _ (pool : List Formula) where
  all_below : (grid : Grid) → HasIndexes (length pool) grid → AllByRecursion (λ (e : CellPlace × Cell). IsBelow (length pool) (cell_formula_index e.1)) (finite.entries grid.cells)
  all_below grid places =
      each_found place_cmp place_cmp_total (λ (p : CellPlace) (x : Cell). IsBelow (length pool) (cell_formula_index x)) (finite.entries grid.cells) (finite.entries_sorted grid.cells)
      (λ p x e. below (length pool) (cell_formula_index x) (λ at is. places p x at (finite.get-entries grid.cells p ∙ e) is))

  one_kept : (place : CellPlace) (o : Option ℕ) → IsBelow (length pool) o
      → option_to_list (option_map (λ (f : Formula). let cell : CellPlace × Formula = (place, f) in cell) (option_and_then (slice_get pool) o))
      ≡ option_to_list (option_map (λ at. let cell : CellPlace × Formula = (place, formula_in pool at) in cell) o)
  one_kept place None h = refl
  one_kept place (Some at) h =
      let got : slice_get pool at ≡ Some (get_or pool at (formulas.Raw [])) = slice_get-get_or pool at (formulas.Raw []) h in
      ap (λ (o : Option Formula). option_to_list (option_map (λ (f : Formula). let cell : CellPlace × Formula = (place, f) in cell) o))
      (got ∙ ap Some (sym (ap (λ (o : Option Formula). unwrap_or o (formulas.Raw [])) got)))

  each_kept : (es : List (CellPlace × Cell)) → AllByRecursion (λ (e : CellPlace × Cell). IsBelow (length pool) (cell_formula_index e.1)) es → flat_map (kept_in pool) es ≡ cells_of pool es
  each_kept [] h = refl
  each_kept (e ∷ es) h = ap₂ (λ (a b : Cells). a ++ b) (one_kept e.0 (cell_formula_index e.1) h.0) (each_kept es h.1)

  -- those of the cells that a map has are all that stand in the sheet
  pub all_lent : (grid : Grid) (m : BTreeMap CellPlace Cell) → HasIndexes (length pool) grid → tree.IsOrdered place_cmp m → finite.from_entries m.entries ≡ grid.cells → flat_map (kept_in pool) m.entries ≡ cells_of pool (finite.entries grid.cells)
  all_lent grid m places ordered e = ap (flat_map (kept_in pool)) (same_entries m grid.cells ordered e) ∙ each_kept (finite.entries grid.cells) (all_below grid places)
