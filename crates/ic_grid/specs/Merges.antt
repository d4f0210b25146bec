-- Merged cells: which of them covers a place, and whether a block meets one.
use Rattle.std.specs.Prelude.{List, Bool, not, ◌&&◌}
use Rattle.std.specs.List.{list_any}
use Rattle.ic_cells.specs.declared.layout.Merge.{Merge}
use Rattle.ic_grid.specs.Block.{Place, block_at, blocks_meet, is_in_block, same_place}
use Rattle.ic_grid.specs.declared.block.Block.{Block}

-- the block of merged cells
abbrev pub merged_block : Merge → Block
merged_block merge = block_at (merge.row, merge.column) merge.width merge.height

-- a place is one of merged cells
abbrev pub is_merged : List Merge → Place → Bool
is_merged merges p = list_any (λ merge. is_in_block (merged_block merge) p) merges

-- merged cells cover a place: it is one of them, but not the first
abbrev pub covers : Place → Merge → Bool
covers p merge = is_in_block (merged_block merge) p && not (same_place (merge.row, merge.column) p)

-- a place is covered
abbrev pub is_covered : List Merge → Place → Bool
is_covered merges p = list_any (covers p) merges

-- a block meets merged cells
abbrev pub meets_merge : List Merge → Block → Bool
meets_merge merges b = list_any (λ merge. blocks_meet (merged_block merge) b) merges
