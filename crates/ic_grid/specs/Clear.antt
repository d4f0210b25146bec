-- What becomes of a sheet when a block of it is cleared.
use Rattle.std.specs.Prelude.{Bool, Option, Some, None, if◌then◌else◌}
use Rattle.ic_grid.specs.Arrays.{array_at, reaches}
use Rattle.ic_grid.specs.Block.{Place, is_in_block}
use Rattle.ic_grid.specs.Contents.{Contents, remade}
use Rattle.ic_grid.specs.Prepare.{loosened}
use Rattle.ic_grid.specs.Shape.{Holding, emptied}
use Rattle.ic_grid.specs.declared.changes.Change.{Change}
use Rattle.ic_grid.specs.declared.changes.Change.TheVariants as changes
use Rattle.ic_grid.specs.declared.block.Block.{Block}

module _ {X : Type 0} (h : Holding X) where
  -- what becomes of a cell in the block: it is taken away where all is cleared, else it is emptied
  abbrev pub wiped : Bool → X → Option X
  wiped all x = if all then None else Some (emptied h x)

  -- a cell outside of the block whose array has a cell in it is released
  abbrev pub cleared_cell : Contents X → Block → Bool → Place → X → Option X
  cleared_cell m b all q x =
      if is_in_block b q then wiped all x else Some (if reaches b (array_at h m q) then loosened h x else x)

  -- a block is cleared
  abbrev pub cleared : Block → Bool → Contents X → Contents X
  cleared b all m = remade (cleared_cell m b all) m

-- what becomes of each cell of a block that is cleared, for the code that changes them
abbrev pub wiping : Bool → Change
wiping all = if all then changes.Take else changes.Empty
