-- What becomes of a sheet and of a book's styles when an array is written into a block; and the cells that are put there.
use Rattle.std.specs.Prelude.{◌≡◌, ℕ, zero, suc, ◌-◌, List, [], ◌∷◌, ◌++◌, if◌then◌else◌}
use Rattle.ic_cells.specs.declared.cell.ArrayKind.TheVariants as kinds
use Rattle.ic_cells.specs.declared.cell.Cell.{Cell}
use Rattle.ic_cells.specs.declared.style.Style.{Style}
use Rattle.ic_cells.specs.declared.value.SpillValue.TheVariants as spills
use Rattle.ic_grid.specs.Block.{Place, first_place, next_place, same_place}
use Rattle.ic_grid.specs.Contents.{Contents}
use Rattle.ic_grid.specs.Rows.{place_count}
use Rattle.ic_grid.specs.Shape.{celled}
use Rattle.ic_grid.specs.Spill.{array_written, written_style}
use Rattle.ic_grid.specs.declared.block.Block.{Block}
use Rattle.ic_grid.specs.declared.grid.Grid.{Grid}

-- a Cse array with this formula is written into a block of a sheet: its cells, and the styles
abbrev pub written_array : Grid → Block → ℕ → List Style → Contents Cell × List Style
written_array grid b f styles = array_written celled grid.rows grid.columns b (place_count b - 1) f grid.cells styles

-- the sheet and the styles then
abbrev pub with_array : Grid → Block → ℕ → List Style → Grid × List Style
with_array grid b f styles = (record grid { cells = (written_array grid b f styles).0 }, (written_array grid b f styles).1)

-- the cell of such an array at a place of its block, in this style: its formula, which has no value, at the first one, and
-- a cell of its spill, which has the empty text, at each other
abbrev pub blank_cell : Block → ℕ → ℕ → Place → Cell
blank_cell b f s q =
    if same_place q (first_place b) then celled.array f s b.width b.height kinds.Cse else celled.spill s (first_place b) (spills.Text [])

-- the style that a place of a sheet gets when something is written there
abbrev pub written_style_of : Grid → List Style → Place → ℕ × List Style
written_style_of grid styles q = written_style celled grid.rows grid.columns grid.cells styles q

module _ (grid : Grid) (b : Block) (f : ℕ) where
  -- the cells for so many places of the block, by rows from one on, each in the style that its place gets; and the styles
  -- then
  abbrev pub blank_cells : ℕ → Place → List Style → List Cell × List Style
  blank_cells zero q styles = ([], styles)
  blank_cells (suc n) q styles = (
    blank_cell b f (written_style_of grid styles q).0 q ∷ (blank_cells n (next_place b q) (written_style_of grid styles q).1).0,
    (blank_cells n (next_place b q) (written_style_of grid styles q).1).1,
  )

  -- those for all its places
  abbrev pub all_blank : List Style → List Cell × List Style
  all_blank styles = blank_cells (place_count b) (first_place b) styles

-- styles of which the first are these
abbrev pub StartWith : List Style → List Style → Type 0
StartWith styles first = (more : List Style) × (styles ≡ first ++ more)
