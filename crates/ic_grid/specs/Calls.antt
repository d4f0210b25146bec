-- What the calls on a sheet's cells answer, by their refusals in order.
use Rattle.std.specs.Prelude.{◌≡◌, ◌⊎◌, ℕ, Bool, not, List, Option, Some, None, Result, Ok, Err, if◌then◌else◌}
use Rattle.ic_cells.specs.declared.layout.Merge.{Merge}
use Rattle.ic_grid.specs.Arrays.{has_cut, has_fixed, is_fixed_at}
use Rattle.ic_grid.specs.Block.{Place, first_place}
use Rattle.ic_grid.specs.Contents.{Contents}
use Rattle.ic_grid.specs.Merges.{is_covered, meets_merge}
use Rattle.ic_grid.specs.Shape.{Holding, Shape, is_anchor, is_formula}
use Rattle.ic_grid.specs.Spill.{first_to_block, misfits}
use Rattle.ic_grid.specs.Value.{shape_at}
use Rattle.ic_grid.specs.declared.block.Block.{Block}
use Rattle.ic_grid.specs.declared.error.GridError.{GridError}
use Rattle.ic_grid.specs.declared.error.GridError.TheVariants as errors

-- nothing refuses, or this does
abbrev pub Answer : Type 0
Answer = Result (Unit {0}) GridError

-- the first of two causes that holds refuses
abbrev pub refused_by : Bool → GridError → Answer → Answer
refused_by cause error answer = if cause then Err error else answer

-- why a call that may want memory didn't do what it was to: a cause refused it, or memory ran out where none did
abbrev pub IsRefusal : Answer → GridError → Type 0
IsRefusal answer error = (answer ≡ Err error) ⊎ ((answer ≡ Ok tt) × (error ≡ errors.OutOfMemory))

module _ {X : Type 0} (h : Holding X) (merges : List Merge) (m : Contents X) where
  -- whether a cell can be written at a place
  abbrev pub can_write : Place → Answer
  can_write p = refused_by (is_covered merges p) errors.MergedPart (refused_by (is_fixed_at h m p) errors.ArrayPart (Ok tt))

  -- whether an array can be written into a block
  abbrev pub can_write_array : Block → Answer
  can_write_array b = refused_by (meets_merge merges b) errors.MergedPart (refused_by (has_fixed h m b) errors.ArrayPart (Ok tt))

module _ {X : Type 0} (h : Holding X) (m : Contents X) where
  -- whether a block can be cleared
  abbrev pub can_clear : Block → Answer
  can_clear b = refused_by (has_cut h m b) errors.ClearArray (Ok tt)

  -- whether a formula at a place can get a value
  abbrev pub can_write_value : Place → Answer
  can_write_value p = refused_by (not (is_formula (shape_at h m p))) errors.NoFormulaCell (Ok tt)

-- a place that blocks refuses
abbrev pub blocked_by : Option Place → Answer
blocked_by None = Ok tt
blocked_by (Some q) = Err (errors.SpillBlocked q.0 q.1)

module _ {X : Type 0} (h : Holding X) (merges : List Merge) (m : Contents X) where
  -- whether what stands at the first place of a block, of this shape, can get so many values there
  abbrev pub spill_answer : Block → ℕ → Shape → Answer
  spill_answer b count shape =
      refused_by (not (is_anchor shape)) errors.NoFormulaCell
      (refused_by (misfits b count shape) errors.BadArea (blocked_by (first_to_block h merges m b count shape)))

  abbrev pub can_spill : Block → ℕ → Answer
  can_spill b count = spill_answer b count (shape_at h m (first_place b))
