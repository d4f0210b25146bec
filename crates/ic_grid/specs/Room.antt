-- Room for cells that are to come.
use Rattle.std.specs.Prelude.{◌≡◌, ◌⊎◌, true, is_some, Some, None, if◌then◌else◌}
use Rattle.std.specs.FinMap as finite
use Rattle.ic_cells.specs.declared.cell.Cell.{Cell}
use Rattle.ic_cells.specs.declared.cell.Cell.TheVariants as cells
use Rattle.ic_grid.specs.Block.{Place, is_in_block}
use Rattle.ic_grid.specs.Change.{placeholder}
use Rattle.ic_grid.specs.Contents.{Contents}
use Rattle.ic_grid.specs.declared.block.Block.{Block}

-- a placeholder stands at a place, if nothing did
abbrev pub marked_at : Place → Contents Cell → Contents Cell
marked_at q m = if is_some (finite.get m q) then m else finite.insert m q placeholder

-- this cell was put at some places of a block at which nothing stood
abbrev pub IsAdded : Cell → Block → Contents Cell → Contents Cell → Type 0
IsAdded x b m n = (p : Place) → (finite.get n p ≡ finite.get m p) ⊎ ((is_in_block b p ≡ true) × (finite.get m p ≡ None) × (finite.get n p ≡ Some x))

-- placeholders were
abbrev pub IsMarked : Block → Contents Cell → Contents Cell → Type 0
IsMarked b m n = IsAdded placeholder b m n

-- empty cells were
abbrev pub IsPadded : Block → Contents Cell → Contents Cell → Type 0
IsPadded b m n = IsAdded (cells.EmptyCell 0) b m n
