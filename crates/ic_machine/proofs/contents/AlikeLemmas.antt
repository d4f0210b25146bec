-- Cells are contents, and contents are held as cells.
use Rattle.std.proofs.Common.{◌≡◌, ℕ, ℤ, List, refl}
use Rattle.ic_cells.specs.declared.cell.Cell.{Cell}
use Rattle.ic_cells.specs.declared.cell.Cell.TheVariants as cells
use Rattle.ic_cells.specs.declared.value.FormulaValue.{FormulaValue}
use Rattle.ic_grid.specs.Shape.{celled, shape_of, with_cell_area, with_cell_value}
use Rattle.ic_cells.specs.Cell.{style_of}
use Rattle.ic_machine.specs.Alike.{HoldsAlike}
use Rattle.ic_machine.specs.Content as contents
use Rattle.ic_machine.specs.Content.{Content, content_of, held, with_array_area, with_formula_value}

module _ (strings : List (List ℕ)) where
  shapes : (cell : Cell) → contents.shape_of (content_of strings cell) ≡ shape_of cell
  shapes (cells.EmptyCell s) = refl
  shapes (cells.BooleanCell v s) = refl
  shapes (cells.NumberCell v s) = refl
  shapes (cells.ErrorCell e s) = refl
  shapes (cells.SharedString i s) = refl
  shapes (cells.CellFormula f s v) = refl
  shapes (cells.ArrayFormula kind f s r v) = refl
  shapes (cells.SpillCell s a v) = refl

  styles : (cell : Cell) → contents.style_of (content_of strings cell) ≡ style_of cell
  styles (cells.EmptyCell s) = refl
  styles (cells.BooleanCell v s) = refl
  styles (cells.NumberCell v s) = refl
  styles (cells.ErrorCell e s) = refl
  styles (cells.SharedString i s) = refl
  styles (cells.CellFormula f s v) = refl
  styles (cells.ArrayFormula kind f s r v) = refl
  styles (cells.SpillCell s a v) = refl

  valued : (value : FormulaValue) (cell : Cell) → with_formula_value value (content_of strings cell) ≡ content_of strings (with_cell_value value cell)
  valued value (cells.EmptyCell s) = refl
  valued value (cells.BooleanCell v s) = refl
  valued value (cells.NumberCell v s) = refl
  valued value (cells.ErrorCell e s) = refl
  valued value (cells.SharedString i s) = refl
  valued value (cells.CellFormula f s v) = refl
  valued value (cells.ArrayFormula kind f s r v) = refl
  valued value (cells.SpillCell s a v) = refl

  widened : (width height : ℤ) (cell : Cell) → with_array_area width height (content_of strings cell) ≡ content_of strings (with_cell_area width height cell)
  widened width height (cells.EmptyCell s) = refl
  widened width height (cells.BooleanCell v s) = refl
  widened width height (cells.NumberCell v s) = refl
  widened width height (cells.ErrorCell e s) = refl
  widened width height (cells.SharedString i s) = refl
  widened width height (cells.CellFormula f s v) = refl
  widened width height (cells.ArrayFormula kind f s r v) = refl
  widened width height (cells.SpillCell s a v) = refl

pub cells_are_contents : (strings : List (List ℕ)) → HoldsAlike (content_of strings) celled held
cells_are_contents strings = record {
  shape = shapes strings;
  style = styles strings;
  empty = λ style. refl;
  with_value = valued strings;
  with_area = widened strings;
  spill = λ style anchor value. refl;
  array = λ index style width height kind. refl;
}

-- A content is held as a cell, too, if its text is left out. ----

abbrev pub as_cell : Content → Cell
as_cell (contents.EmptyContent style) = cells.EmptyCell style
as_cell (contents.BoolContent truth style) = cells.BooleanCell truth style
as_cell (contents.NumContent amount style) = cells.NumberCell amount style
as_cell (contents.ErrContent e style) = cells.ErrorCell e style
as_cell (contents.TextContent text style) = cells.SharedString 0 style
as_cell (contents.FormulaContent index value style) = cells.CellFormula index style value
as_cell (contents.AnchorContent index area kind value style) = cells.ArrayFormula kind index style area value
as_cell (contents.SpillContent anchor value style) = cells.SpillCell style anchor value

cell_shape : (x : Content) → shape_of (as_cell x) ≡ contents.shape_of x
cell_shape (contents.EmptyContent style) = refl
cell_shape (contents.BoolContent truth style) = refl
cell_shape (contents.NumContent amount style) = refl
cell_shape (contents.ErrContent e style) = refl
cell_shape (contents.TextContent text style) = refl
cell_shape (contents.FormulaContent index value style) = refl
cell_shape (contents.AnchorContent index area kind value style) = refl
cell_shape (contents.SpillContent anchor value style) = refl

cell_style : (x : Content) → style_of (as_cell x) ≡ contents.style_of x
cell_style (contents.EmptyContent style) = refl
cell_style (contents.BoolContent truth style) = refl
cell_style (contents.NumContent amount style) = refl
cell_style (contents.ErrContent e style) = refl
cell_style (contents.TextContent text style) = refl
cell_style (contents.FormulaContent index value style) = refl
cell_style (contents.AnchorContent index area kind value style) = refl
cell_style (contents.SpillContent anchor value style) = refl

cell_valued : (value : FormulaValue) (x : Content) → with_cell_value value (as_cell x) ≡ as_cell (with_formula_value value x)
cell_valued value (contents.EmptyContent style) = refl
cell_valued value (contents.BoolContent truth style) = refl
cell_valued value (contents.NumContent amount style) = refl
cell_valued value (contents.ErrContent e style) = refl
cell_valued value (contents.TextContent text style) = refl
cell_valued value (contents.FormulaContent index old style) = refl
cell_valued value (contents.AnchorContent index area kind old style) = refl
cell_valued value (contents.SpillContent anchor old style) = refl

cell_widened : (width height : ℤ) (x : Content) → with_cell_area width height (as_cell x) ≡ as_cell (with_array_area width height x)
cell_widened width height (contents.EmptyContent style) = refl
cell_widened width height (contents.BoolContent truth style) = refl
cell_widened width height (contents.NumContent amount style) = refl
cell_widened width height (contents.ErrContent e style) = refl
cell_widened width height (contents.TextContent text style) = refl
cell_widened width height (contents.FormulaContent index value style) = refl
cell_widened width height (contents.AnchorContent index area kind value style) = refl
cell_widened width height (contents.SpillContent anchor value style) = refl

pub contents_are_cells : HoldsAlike as_cell held celled
contents_are_cells = record {
  shape = cell_shape;
  style = cell_style;
  empty = λ style. refl;
  with_value = cell_valued;
  with_area = cell_widened;
  spill = λ style anchor value. refl;
  array = λ index style width height kind. refl;
}
