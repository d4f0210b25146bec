-- What holds of a sheet's cells and merges between calls.
use Rattle.std.specs.Prelude.{◌≡◌, ◌<◌, ℕ, ℤ, nat_lt, Bool, true, false, List, Option, Some, None}
use Rattle.std.specs.FinMap as finite
use Rattle.std.specs.List.{All, slice_get}
use Rattle.ic_laws.specs.Position.{is_column, is_row}
use Rattle.ic_cells.specs.declared.cell.ArrayKind.{ArrayKind}
use Rattle.ic_cells.specs.declared.layout.ColumnProps.{ColumnProps}
use Rattle.ic_cells.specs.declared.layout.Merge.{Merge}
use Rattle.ic_cells.specs.declared.layout.RowProps.{RowProps}
use Rattle.ic_grid.specs.Arrays.{array_of}
use Rattle.ic_grid.specs.Block.{Place, block_at, blocks_meet, is_area, is_in_block, is_in_sheet, is_single, same_place}
use Rattle.ic_grid.specs.Contents.{Contents}
use Rattle.ic_grid.specs.Merges.{merged_block, meets_merge}
use Rattle.ic_grid.specs.declared.block.Array.{Array}
use Rattle.ic_grid.specs.Shape.{Holding, Shape, Anchor, SpillOf}
use Rattle.ic_grid.specs.Style.{Columns, Rows}

-- the number of a style, where there is one, is below how many there are
abbrev pub IsStyleNumber : ℕ → Option ℕ → Type 0
IsStyleNumber count None = Unit {0}
IsStyleNumber count (Some n) = n < count

-- the same as a test
abbrev pub is_style_number : ℕ → Option ℕ → Bool
is_style_number count None = true
is_style_number count (Some n) = nat_lt n count

-- rows and columns for which something was set are the sheet's
pub record AreLinesInSheet (set_rows : Rows) (set_columns : Columns) : Type 0 where
  pub rows : (row : ℤ) (props : RowProps) → finite.get set_rows row ≡ Some props → is_row row ≡ true
  pub columns : (column : ℤ) (props : ColumnProps) → finite.get set_columns column ≡ Some props → is_column column ≡ true

module _ {X : Type 0} (h : Holding X) (m : Contents X) where
  -- something of this shape stands at a place
  abbrev pub Has : Place → Shape → Type 0
  Has p shape = (x : X) × (finite.get m p ≡ Some x) × (h.shape x ≡ shape)

  -- each cell lies in the sheet
  abbrev pub AreInSheet : Type 0
  AreInSheet = (p : Place) (x : X) → finite.get m p ≡ Some x → is_in_sheet p ≡ true

  -- The area of each array is at least one place, and lies in the sheet. Each place of it other than the formula's is a
  -- cell of its spill, and each cell of a spill lies in the area of the array whose formula it tells.
  pub record AreArrays : Type 0 where
    pub areas : (a : Place) (w t : ℤ) (kind : ArrayKind) → Has a (Anchor w t kind) → is_area (block_at a w t) ≡ true
    pub filled : (a p : Place) (w t : ℤ) (kind : ArrayKind) → Has a (Anchor w t kind) → is_in_block (block_at a w t) p ≡ true → same_place p a ≡ false → Has p (SpillOf a)
    pub owned : (a p : Place) → Has p (SpillOf a) → (w : ℤ) × (t : ℤ) × (kind : ArrayKind) × Has a (Anchor w t kind) × (is_in_block (block_at a w t) p ≡ true)

  -- Merged cells are at least one place, lie in the sheet, have no place in common with others, and none with an array of
  -- more than one cell.
  pub record AreMerges (merges : List Merge) : Type 0 where
    pub areas : All (λ merge. is_area (merged_block merge) ≡ true) merges
    pub apart : (i j : ℕ) (one other : Merge) → i < j → slice_get merges i ≡ Some one → slice_get merges j ≡ Some other → blocks_meet (merged_block one) (merged_block other) ≡ false
    pub arrays : (a : Place) (array : Array) → array_of h m a ≡ Some array → is_single array.block ≡ false → meets_merge merges array.block ≡ false

  -- the numbers of the styles of all that stands in the sheet, and of those set for its rows and columns, are below how many
  -- styles there are
  pub record AreStyled (count : ℕ) (set_rows : Rows) (set_columns : Columns) : Type 0 where
    pub contents : (p : Place) (x : X) → finite.get m p ≡ Some x → h.style x < count
    pub rows : (row : ℤ) (props : RowProps) → finite.get set_rows row ≡ Some props → IsStyleNumber count props.style
    pub columns : (column : ℤ) (props : ColumnProps) → finite.get set_columns column ≡ Some props → IsStyleNumber count props.style
