-- Arrays by example: a cell of an array that is written as a whole can't be written alone.
use Rattle.std.proofs.Common.{◌≡◌, pos, [], Some, Err, codes}
use Rattle.std.specs.FinMap as finite
use Rattle.ic_laws.proofs.core.CellWritten.{place_cmp_total}
use Rattle.ic_cells.specs.declared.cell.ArrayKind.TheVariants as kinds
use Rattle.ic_cells.specs.declared.value.FormulaValue.TheVariants as values
use Rattle.ic_cells.specs.declared.value.SpillValue.TheVariants as spills
use Rattle.ic_machine.specs.Book.{Grid, Sheet, empty_grid, empty_sheet}
use Rattle.ic_machine.specs.Content.{AnchorContent, SpillContent}
use Rattle.ic_machine.specs.Refusal.{ArrayPart, NoFormulaCell, first_refusal}
use Rattle.ic_machine.specs.subjects.Arrays.{put_value_step}
use Rattle.ic_machine.specs.subjects.Writing.{write_causes}

-- an array of two cells in the first row
abbrev cells : Grid
cells = record empty_grid {
  contents = finite.insert (finite.insert finite.empty (pos 1, pos 1) (AnchorContent 0 (pos 2, pos 1) kinds.Cse values.Unevaluated 0)) (pos 1, pos 2) (SpillContent (pos 1, pos 1) (spills.Text []) 0);
}

abbrev sheet : Sheet
sheet = record (empty_sheet 1 (codes "Sheet1")) { grid = cells }

part : first_refusal (write_causes sheet (pos 1, pos 2)) ≡ Some ArrayPart
part = simp (finite.gets, place_cmp_total)

-- its other cell has no formula to take a value
other : put_value_step (pos 1, pos 2) values.Unevaluated cells ≡ Err NoFormulaCell
unfolding put_value_step
other = simp (finite.gets, place_cmp_total)
