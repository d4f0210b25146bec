-- Arrays: which one a place belongs to, and those whose area doesn't change.
use Rattle.std.specs.Prelude.{◌≡◌, Bool, true, false, not, ◌&&◌, Option, Some, None, option_and_then}
use Rattle.std.specs.FinMap as finite
use Rattle.std.specs.List.{list_any}
use Rattle.ic_cells.specs.declared.cell.Cell.{Cell}
use Rattle.ic_grid.specs.Block.{Place, block_at, blocks_meet, is_block_within, is_in_block, is_single}
use Rattle.ic_grid.specs.Contents.{Contents}
use Rattle.ic_grid.specs.Shape.{Holding, Shape, Anchor, SpillOf, is_cse, shape_of}
use Rattle.ic_grid.specs.declared.arrays.Sought.{Sought}
use Rattle.ic_grid.specs.declared.arrays.Sought.TheVariants as sought
use Rattle.ic_grid.specs.declared.block.Array.{Array}
use Rattle.ic_grid.specs.declared.block.Block.{Block}

-- where the formula stands of the array that something at this place belongs to: there itself, or where a spill's cell says
abbrev pub anchor_of : Place → Shape → Option Place
anchor_of p (Anchor width height kind) = Some p
anchor_of p (SpillOf a) = Some a
anchor_of p shape = None

-- the array of an array formula at this place
abbrev pub array_from : Place → Shape → Option Array
array_from a (Anchor width height kind) = Some (record { block = block_at a width height; kind = kind })
array_from a shape = None

-- a Cse array of more than one cell: its cells are written and cleared together or not at all
abbrev pub is_fixed : Option Array → Bool
is_fixed None = false
is_fixed (Some array) = is_cse array.kind && not (is_single array.block)

-- such an array, of which some cell is outside of a block
abbrev pub is_cut_by : Block → Option Array → Bool
is_cut_by b None = false
is_cut_by b (Some array) = is_fixed (Some array) && not (is_block_within array.block b)

-- an array is one of those that are looked for: each that is fixed, or those that a block cuts
abbrev pub is_sought : Sought → Block → Option Array → Bool
is_sought sought.Fixed b array = is_fixed array
is_sought sought.Cut b array = is_cut_by b array

-- an array has a cell in a block
abbrev pub reaches : Block → Option Array → Bool
reaches b None = false
reaches b (Some array) = blocks_meet array.block b

module _ {X : Type 0} (h : Holding X) (m : Contents X) where
  -- where the formula stands of the array that a place belongs to
  abbrev pub anchor_at : Place → Option Place
  anchor_at p = option_and_then (λ x. anchor_of p (h.shape x)) (finite.get m p)

  -- the array of the formula at a place
  abbrev pub array_of : Place → Option Array
  array_of a = option_and_then (λ x. array_from a (h.shape x)) (finite.get m a)

  -- the array that a place belongs to
  abbrev pub array_at : Place → Option Array
  array_at p = option_and_then array_of (anchor_at p)

  -- a place belongs to a Cse array of more than one cell
  abbrev pub is_fixed_at : Place → Bool
  is_fixed_at p = is_fixed (array_at p)

  -- what a place of a block belongs to, an array or none, passes a test
  abbrev pub has_in : Block → (Option Array → Bool) → Bool
  has_in b test = list_any (λ p. is_in_block b p && test (array_at p)) (finite.keys m)

  -- some place of a block belongs to a Cse array of more than one cell
  abbrev pub has_fixed : Block → Bool
  has_fixed b = has_in b is_fixed

  -- such an array lies partly in a block
  abbrev pub has_cut : Block → Bool
  has_cut b = has_in b (is_cut_by b)

  -- some place of a block belongs to an array that is looked for
  abbrev pub has_sought : Sought → Block → Bool
  has_sought kind b = has_in b (is_sought kind b)

-- what stands at a place tells of an array that has a cell outside of a block: it is a formula whose area isn't within the
-- block, or a spill's cell whose formula stands outside
abbrev pub is_crossing : Block → Place → Shape → Bool
is_crossing b p (Anchor width height kind) = not (is_block_within (block_at p width height) b)
is_crossing b p (SpillOf a) = not (is_in_block b a)
is_crossing b p shape = false

-- no cell of a block does
abbrev pub HasNoCrossing : Contents Cell → Block → Type 0
HasNoCrossing m b = (q : Place) (x : Cell) → is_in_block b q ≡ true → finite.get m q ≡ Some x → is_crossing b q (shape_of x) ≡ false
