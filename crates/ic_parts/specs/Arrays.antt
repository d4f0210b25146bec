-- The areas that arrays are written into and that are cleared, and what writing an array does to a whole book.
use Rattle.std.specs.Prelude.{◌≡◌, ℕ, List, [], ◌∷◌, not, Option, Some, None, if◌then◌else◌}
use Rattle.std.specs.List.{slice_get}
use Rattle.ic_laws.specs.CoreStep.{updated_at}
use Rattle.ic_laws.specs.FormulaReading.{is_formula_text, without_equals}
use Rattle.ic_laws.specs.declared.tree.Formula.{Formula}
use Rattle.ic_grid.specs.Arrays.{has_fixed}
use Rattle.ic_grid.specs.Block.{first_place, is_area}
use Rattle.ic_grid.specs.Merges.{meets_merge}
use Rattle.ic_grid.specs.Shape.{celled}
use Rattle.ic_grid.specs.Written as grid
use Rattle.ic_grid.specs.declared.block.Block.{Block}
use Rattle.ic_grid.specs.declared.grid.Grid.{Grid}
use Rattle.ic_machine.specs.Refusal.{ArrayPart, BadArea, Causes, InvalidSheet, MergedPart, Refusal, first_refusal}
use Rattle.ic_pool.specs.Pool.{IsPlaced}
use Rattle.ic_refs.specs.declared.reference.Area.{Area}
use Rattle.ic_sheets.specs.Sheet.{Sheet}
use Rattle.ic_parts.specs.Book.{Book}
use Rattle.ic_parts.specs.Written.{written_formula}

-- the block of an area
abbrev pub block_of : Area → Block
block_of area = record { row = area.row; column = area.column; width = area.width; height = area.height }

-- what stands after one `=` at the front of a text, if something does
abbrev pub after_equals : List ℕ → Option (List ℕ)
after_equals text = if is_formula_text text then Some (without_equals text) else None

-- a Cse array with the formula at an index is written into a block of a sheet, whose pool is this then
abbrev pub with_array : ℕ → Sheet → List Formula → Block → ℕ → Book → Book
with_array index s pool b at book = record book {
  sheets = updated_at (λ sheet. record sheet { pool = pool; grid = (grid.with_array s.grid b at book.styles).0 }) index book.sheets;
  styles = (grid.with_array s.grid b at book.styles).1;
}

-- The formula of a body is written into a block of a sheet as a Cse array: it has got its place among those that the sheet
-- keeps.
pub record WritesArray (index : ℕ) (s : Sheet) (b : Block) (body : List ℕ) (old new : Book) : Type 0 where
  pub pool : List Formula
  pub at : ℕ
  pub placed : IsPlaced (written_formula old s (first_place b) body) at s.pool pool
  pub is : new ≡ with_array index s pool b at old

-- What refuses it, whatever its text. ----

abbrev pub array_causes : Grid → Block → Causes
array_causes g b = (not (is_area b), BadArea) ∷ (meets_merge g.merged_cells b, MergedPart) ∷ (has_fixed celled g.cells b, ArrayPart) ∷ []

-- by the sheet, if there is one
abbrev pub array_refusal_in : Block → Option Sheet → Option Refusal
array_refusal_in b None = Some InvalidSheet
array_refusal_in b (Some s) = first_refusal (array_causes s.grid b)

abbrev pub array_refusal : Book → ℕ → Block → Option Refusal
array_refusal book index b = array_refusal_in b (slice_get book.sheets index)
