-- The places of a block by rows, so many of them from one on.
use Rattle.std.specs.Prelude.{◌≡◌, true, IsSome, ℕ, zero, suc, ◌*◌, nat_abs, List, [], ◌∷◌}
use Rattle.std.specs.FinMap as finite
use Rattle.std.specs.Option.{option_map, unwrap_or}
use Rattle.ic_cells.specs.Cell.{style_of}
use Rattle.ic_cells.specs.declared.cell.Cell.{Cell}
use Rattle.ic_cells.specs.declared.value.SpillValue.{SpillValue}
use Rattle.ic_grid.specs.Shape.{celled}
use Rattle.ic_grid.specs.Block.{Place, first_place, is_in_block, next_place}
use Rattle.ic_grid.specs.Contents.{Contents}
use Rattle.ic_grid.specs.declared.block.Block.{Block}

-- how many places a block has
abbrev pub place_count : Block → ℕ
place_count b = nat_abs b.width * nat_abs b.height

-- these stand at the places of a block, by rows from one on
abbrev pub placed : {X : Type 0} → Block → Place → List X → Contents X → Contents X
placed b q [] m = m
placed b q (x ∷ xs) m = placed b (next_place b q) xs (finite.insert m q x)

-- something stands at each place of a block
abbrev pub IsFull : {X : Type 0} → Block → Contents X → Type 0
IsFull b m = (p : Place) → is_in_block b p ≡ true → IsSome (finite.get m p)

-- the number of the style of the cell at a place, 0 where none stands
abbrev pub style_or_zero : Contents Cell → Place → ℕ
style_or_zero m p = unwrap_or (option_map style_of (finite.get m p)) 0

-- for each of so many places of a block, by rows from one on, a cell of its spill with this value, in the style of the
-- cell that stands there
abbrev pub spread_from : Contents Cell → Block → SpillValue → Place → ℕ → List Cell
spread_from m b v q zero = []
spread_from m b v q (suc n) = celled.spill (style_or_zero m q) (first_place b) v ∷ spread_from m b v (next_place b q) n
