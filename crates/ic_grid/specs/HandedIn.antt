-- What each entry of a grid that is handed in is asked for.
use Rattle.std.specs.Prelude.{◌≡◌, ◌<◌, ℕ, ℤ, Bool, true, false, not, ◌||◌, List, Option, Some, None}
use Rattle.std.specs.List.{list_all, slice_get}
use Rattle.ic_cells.specs.declared.layout.Merge.{Merge}
use Rattle.ic_grid.specs.Arrays.{array_of}
use Rattle.ic_grid.specs.Block.{Place, block_at, blocks_meet, first_place, is_area, is_in_block, is_in_span, is_single, same_place}
use Rattle.ic_grid.specs.Contents.{Contents}
use Rattle.ic_grid.specs.Merges.{meets_merge, merged_block}
use Rattle.ic_grid.specs.Shape.{Holding, Shape, Anchor, SpillOf, is_spill_of}
use Rattle.ic_grid.specs.Value.{shape_at}
use Rattle.ic_grid.specs.declared.block.Array.{Array}
use Rattle.ic_grid.specs.declared.block.Block.{Block}

-- a place lies in the area of an array
abbrev pub is_in_array : Place → Option Array → Bool
is_in_array p None = false
is_in_array p (Some array) = is_in_block array.block p

-- an array of more than one cell has none in common with merged cells
abbrev pub is_unmerged : List Merge → Option Array → Bool
is_unmerged merges None = true
is_unmerged merges (Some array) = is_single array.block || not (meets_merge merges array.block)

-- no two merges have a cell in common
abbrev pub AreApart : List Merge → Type 0
AreApart merges = (i j : ℕ) (one other : Merge) → i < j → slice_get merges i ≡ Some one → slice_get merges j ≡ Some other → blocks_meet (merged_block one) (merged_block other) ≡ false

-- each has a cell at least and lies in the sheet, and no two have one in common
pub record AreSeparate (merges : List Merge) : Type 0 where
  pub areas : list_all (λ merge. is_area (merged_block merge)) merges ≡ true
  pub apart : AreApart merges

module _ {X : Type 0} (h : Holding X) (m : Contents X) where
  -- a place is the first of a block, or holds a cell of the spill of the formula there
  abbrev pub is_filled_at : Block → Place → Bool
  is_filled_at b p = same_place p (first_place b) || is_spill_of (first_place b) (shape_at h m p)

  -- each place of a row of a block is so
  abbrev pub IsRowFilled : Block → ℤ → Type 0
  IsRowFilled b row = (column : ℤ) → is_in_span b.column b.width column ≡ true → is_filled_at b (row, column) ≡ true

  -- each place of a block is so
  abbrev pub IsFilled : Block → Type 0
  IsFilled b = (p : Place) → is_in_block b p ≡ true → is_filled_at b p ≡ true

  -- the area of the array whose formula stands at a place lies in the sheet and has its spill
  pub record HasSpill (p : Place) (width height : ℤ) : Type 0 where
    pub area : is_area (block_at p width height) ≡ true
    pub filled : IsFilled (block_at p width height)

  -- an array's formula has its spill, and a spill's cell lies in the area of its array
  abbrev pub IsWhole : Place → Shape → Type 0
  IsWhole p (Anchor width height kind) = HasSpill p width height
  IsWhole p (SpillOf a) = is_in_array p (array_of h m a) ≡ true
  IsWhole p shape = Unit {0}
