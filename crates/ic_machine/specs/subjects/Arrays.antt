-- The commands on arrays, spills and clearing. What they do to the places of a sheet is said for whatever a place holds.
use Rattle.std.specs.Prelude.{ℕ, ℤ, ◌*◌, ◌-◌, nat_abs, List, [], ◌∷◌, Bool, true, false, not, length, Option, Some, None, codes}
use Rattle.ic_laws.specs.FormulaReading.{is_formula_text, without_equals}
use Rattle.ic_laws.specs.declared.tree.Formula.{Formula}
use Rattle.ic_cells.specs.declared.style.Style.{Style}
use Rattle.ic_cells.specs.declared.value.FormulaValue.{FormulaValue}
use Rattle.ic_cells.specs.declared.value.SpillValue.{SpillValue}
use Rattle.ic_grid.specs.Arrays.{has_cut, has_fixed}
use Rattle.ic_grid.specs.Block.{Place, first_place, is_area}
use Rattle.ic_grid.specs.Clear.{cleared}
use Rattle.ic_grid.specs.Contents.{Contents}
use Rattle.ic_grid.specs.Merges.{meets_merge}
use Rattle.ic_grid.specs.Shape.{is_anchor, is_formula}
use Rattle.ic_grid.specs.Spill.{array_written, first_blocking, misfits, spilled}
use Rattle.ic_grid.specs.Value.{shape_at, valued}
use Rattle.ic_grid.specs.declared.block.Block.{Block}
use Rattle.ic_machine.specs.Action.{Action, ChangesCells, ChangesGrid, perform}
use Rattle.ic_machine.specs.Book.{Book, Grid, Sheet, Stepped, at_sheet, unless_refused, with_sheet}
use Rattle.ic_machine.specs.Content.{Content, held}
use Rattle.ic_machine.specs.Placed.{index_in_pool, pool_with}
use Rattle.ic_machine.specs.Refusal.{ArrayPart, BadArea, Causes, ClearArray, MergedPart, NoFormulaCell, NotAFormula, SpillBlocked}
use Rattle.ic_machine.specs.Row.{Row}
use Rattle.ic_machine.specs.Word.{Many, OfIndex, OfPosition, OfSpill, OfText, OfValue, Then, words_of}
use Rattle.ic_machine.specs.subjects.Writing.{formula_at_place}

pub data Arrays : Type 0 where
  SetUserArrayFormula : (sheet : ℕ) (block : Block) (text : List ℕ) → Arrays
  RangeClearContents : (sheet : ℕ) (block : Block) → Arrays
  RangeClearAll : (sheet : ℕ) (block : Block) → Arrays
  PutFormulaValue : (sheet : ℕ) (place : Place) (value : FormulaValue) → Arrays
  PutSpill : (sheet : ℕ) (block : Block) (values : List SpillValue) → Arrays

-- a block is four words: its first row and column, how many columns it is wide, and how many rows it is high
abbrev pub block_said : ℤ → ℤ → ℤ → ℤ → Block
block_said row column width height = record { row = row; column = column; width = width; height = height }

abbrev pub array_rows : List (Row Arrays)
array_rows =
    record { name = codes "set_user_array_formula"; words = words_of (OfIndex ∷ OfPosition ∷ OfPosition ∷ OfPosition ∷ OfPosition ∷ OfText ∷ []); command = λ w. SetUserArrayFormula w.0 (block_said w.1.0 w.1.1.0 w.1.1.1.0 w.1.1.1.1.0) w.1.1.1.1.1.0 }
    ∷ record { name = codes "range_clear_contents"; words = words_of (OfIndex ∷ OfPosition ∷ OfPosition ∷ OfPosition ∷ OfPosition ∷ []); command = λ w. RangeClearContents w.0 (block_said w.1.0 w.1.1.0 w.1.1.1.0 w.1.1.1.1.0) }
    ∷ record { name = codes "range_clear_all"; words = words_of (OfIndex ∷ OfPosition ∷ OfPosition ∷ OfPosition ∷ OfPosition ∷ []); command = λ w. RangeClearAll w.0 (block_said w.1.0 w.1.1.0 w.1.1.1.0 w.1.1.1.1.0) }
    ∷ record { name = codes "put_formula_value"; words = words_of (OfIndex ∷ OfPosition ∷ OfPosition ∷ OfValue ∷ []); command = λ w. PutFormulaValue w.0 (w.1.0, w.1.1.0) w.1.1.1.0 }
    ∷ record { name = codes "put_spill"; words = Then OfIndex (Then OfPosition (Then OfPosition (Then OfPosition (Then OfPosition (Many OfSpill))))); command = λ w. PutSpill w.0 (block_said w.1.0 w.1.1.0 w.1.1.1.0 w.1.1.1.1.0) w.1.1.1.1.1 } ∷ []

-- how many places a block has
abbrev pub place_count : Block → ℕ
place_count b = nat_abs b.width * nat_abs b.height

-- an array formula ----

abbrev pub array_causes : Sheet → Block → List ℕ → Causes
array_causes sheet b text =
    (not (is_area b), BadArea) ∷ (meets_merge sheet.grid.merges b, MergedPart) ∷ (has_fixed held sheet.grid.contents b, ArrayPart)
    ∷ (not (is_formula_text text), NotAFormula) ∷ []

-- a sheet with other contents and another pool, and a book with other styles
abbrev pub with_contents : Book → ℕ → Sheet → List Formula → Contents Content × List Style → Book
with_contents book index sheet pool left =
    record (with_sheet book index (record sheet { pool = pool; grid = record sheet.grid { contents = left.0 } })) { styles = left.1 }

abbrev pub with_array : Book → ℕ → Sheet → Block → Formula → Book
with_array book index sheet b formula =
    with_contents book index sheet (pool_with formula sheet.pool)
    (array_written held sheet.grid.rows sheet.grid.columns b (place_count b - 1) (index_in_pool formula sheet.pool) sheet.grid.contents book.styles)

unfoldable pub array_step : ℕ → Block → List ℕ → Book → Stepped Book
array_step index b text book =
    at_sheet book index
    (λ sheet. unless_refused (array_causes sheet b text) (with_array book index sheet b (formula_at_place book sheet (first_place b) (without_equals text))) [])

-- steps on one grid ----

abbrev pub with_grid_contents : Grid → Contents Content → Grid
with_grid_contents grid contents = record grid { contents = contents }

unfoldable pub clear_step : Bool → Block → Grid → Stepped Grid
clear_step all b grid =
    unless_refused ((not (is_area b), BadArea) ∷ (has_cut held grid.contents b, ClearArray) ∷ []) (with_grid_contents grid (cleared held b all grid.contents)) []

unfoldable pub put_value_step : Place → FormulaValue → Grid → Stepped Grid
put_value_step p value grid =
    unless_refused ((not (is_formula (shape_at held grid.contents p)), NoFormulaCell) ∷ []) (with_grid_contents grid (valued held p value grid.contents)) []

-- a spill is refused where some place blocks it, which is told
abbrev pub blocked_causes : Option Place → Causes
blocked_causes None = []
blocked_causes (Some p) = (true, SpillBlocked p.0 p.1) ∷ []

abbrev pub spill_causes : Grid → Block → ℕ → Causes
spill_causes grid b count =
    (not (is_anchor (shape_at held grid.contents (first_place b))), NoFormulaCell)
    ∷ (misfits b count (shape_at held grid.contents (first_place b)), BadArea)
    ∷ blocked_causes (first_blocking held grid.merges grid.contents b count)

unfoldable pub put_spill_step : Block → List SpillValue → Grid → Stepped Grid
put_spill_step b values grid =
    unless_refused (spill_causes grid b (length values)) (with_grid_contents grid (spilled held grid.rows grid.columns b values grid.contents)) []

abbrev pub arrays_action : Arrays → Action
arrays_action (SetUserArrayFormula sheet block text) = ChangesCells (array_step sheet block text)
arrays_action (RangeClearContents sheet block) = ChangesGrid sheet (clear_step false block)
arrays_action (RangeClearAll sheet block) = ChangesGrid sheet (clear_step true block)
arrays_action (PutFormulaValue sheet place value) = ChangesGrid sheet (put_value_step place value)
arrays_action (PutSpill sheet block values) = ChangesGrid sheet (put_spill_step block values)

abbrev pub arrays_step : Book → Arrays → Stepped Book
arrays_step book command = perform book (arrays_action command)
