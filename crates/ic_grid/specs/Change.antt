-- What can become of each cell of a block; and placeholders, which stand where cells are to come.
use Rattle.std.specs.Prelude.{pos, Bool, false, Option, Some, None, if◌then◌else◌}
use Rattle.ic_cells.specs.declared.cell.Cell.{Cell}
use Rattle.ic_cells.specs.declared.cell.Cell.TheVariants as cells
use Rattle.ic_cells.specs.declared.value.SpillValue.TheVariants as spills
use Rattle.ic_grid.specs.Block.{Place, is_in_block, same_place}
use Rattle.ic_grid.specs.Contents.{Contents, remade}
use Rattle.ic_grid.specs.Shape.{celled, emptied, is_spill_of, shape_of}
use Rattle.ic_grid.specs.declared.block.Block.{Block}
use Rattle.ic_grid.specs.declared.changes.Change.{Change}
use Rattle.ic_grid.specs.declared.changes.Change.TheVariants as changes

-- no formula stands there
abbrev pub nowhere : Place
nowhere = (pos 0, pos 0)

-- a placeholder is the cell of a spill whose formula stands nowhere
abbrev pub placeholder : Cell
placeholder = cells.SpillCell 0 nowhere (spills.Boolean false)

abbrev pub is_placeholder : Cell → Bool
is_placeholder x = is_spill_of nowhere (shape_of x)

-- what becomes of a cell: it is taken away, or emptied; or only a placeholder is
abbrev pub changed : Change → Cell → Option Cell
changed changes.Take x = None
changed changes.Empty x = Some (emptied celled x)
changed changes.TakePlaceholder x = if is_placeholder x then None else Some x
changed changes.EmptyPlaceholder x = if is_placeholder x then Some (emptied celled x) else Some x

module _ {X : Type 0} where
  -- what stands at the places that pass a test is made into something else, or taken away
  abbrev pub remade_where : (Place → Bool) → (X → Option X) → Contents X → Contents X
  remade_where test f m = remade (λ q x. if test q then f x else Some x) m

abbrev pub changed_at : Place → Change → Contents Cell → Contents Cell
changed_at p change m = remade_where (λ q. same_place q p) (changed change) m

abbrev pub changed_in : Block → Change → Contents Cell → Contents Cell
changed_in b change m = remade_where (is_in_block b) (changed change) m
