-- A sheet between calls.
use Rattle.std.specs.Prelude.{List, length}
use Rattle.ic_cells.specs.declared.style.Style.{Style}
use Rattle.ic_grid.specs.Conditions.{AreArrays, AreInSheet, AreMerges, AreStyled}
use Rattle.ic_grid.specs.Shape.{celled}
use Rattle.ic_grid.specs.declared.grid.Grid.{Grid}

-- its cells lie in it, its arrays have their areas and spills, and its merged cells meet no others and no array
pub record IsGrid (grid : Grid) : Type 0 where
  pub inside : AreInSheet celled grid.cells
  pub arrays : AreArrays celled grid.cells
  pub merges : AreMerges celled grid.cells grid.merged_cells

-- each style that it names is one of these
abbrev pub IsStyled : List Style → Grid → Type 0
IsStyled styles grid = AreStyled celled grid.cells (length styles) grid.rows grid.columns
