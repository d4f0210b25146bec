-- What a place of a sheet holds: eight kinds of contents, with the value, the type and the style of each. A text stands in
-- a content as itself.
use Rattle.std.specs.Prelude.{ℕ, ℤ, Bool, List, [], Option, Some, None, unwrap_or, slice_get}
use Rattle.ic_laws.specs.CoreBook.{CellPlace}
use Rattle.ic_laws.specs.declared.tree.Error.{Error}
use Rattle.ic_laws.specs.declared.tree.Formula.{Formula}
use Rattle.ic_laws.specs.declared.tree.Formula.TheVariants as formulas
use Rattle.ic_tables.specs.declared.language.Language.{Language}
use Rattle.ic_cells.specs.Cell.{string_at}
use Rattle.ic_cells.specs.Value.{error_word, formula_type, formula_value, spill_type, spill_value}
use Rattle.ic_cells.specs.declared.cell.ArrayKind.{ArrayKind}
use Rattle.ic_cells.specs.declared.cell.Cell.{Cell}
use Rattle.ic_cells.specs.declared.cell.Cell.TheVariants as cells
use Rattle.ic_cells.specs.declared.value.CellType.{CellType}
use Rattle.ic_cells.specs.declared.value.CellType.TheVariants as types
use Rattle.ic_cells.specs.declared.value.CellValue.{CellValue}
use Rattle.ic_cells.specs.declared.value.CellValue.TheVariants as values
use Rattle.ic_cells.specs.declared.value.FormulaValue.{FormulaValue}
use Rattle.ic_cells.specs.declared.value.FormulaValue.TheVariants as fvalues
use Rattle.ic_cells.specs.declared.value.SpillValue.{SpillValue}
use Rattle.ic_grid.specs.Shape.{Holding, Shape}
use Rattle.ic_grid.specs.Shape as shapes

-- nothing but a style; a boolean, a number, an error value, a text; a formula, by its index in the sheet's pool, with its
-- value; the first cell of an array, whose formula gives values to an area, so many columns wide and so many rows high;
-- and a value that the array with its first cell at a place gives. Each has the number of its style.
pub data Content : Type 0 where
  EmptyContent : (style : ℕ) → Content
  BoolContent : (truth : Bool) (style : ℕ) → Content
  NumContent : (amount : ℤ) (style : ℕ) → Content
  ErrContent : (error : Error) (style : ℕ) → Content
  TextContent : (text : List ℕ) (style : ℕ) → Content
  FormulaContent : (index : ℕ) (value : FormulaValue) (style : ℕ) → Content
  AnchorContent : (index : ℕ) (area : ℤ × ℤ) (kind : ArrayKind) (value : FormulaValue) (style : ℕ) → Content
  SpillContent : (anchor : CellPlace) (value : SpillValue) (style : ℕ) → Content

-- the index of a content's formula
abbrev pub formula_index : Content → Option ℕ
formula_index (FormulaContent index value style) = Some index
formula_index (AnchorContent index area kind value style) = Some index
formula_index content = None

-- the number of its style
abbrev pub style_of : Content → ℕ
style_of (EmptyContent style) = style
style_of (BoolContent truth style) = style
style_of (NumContent amount style) = style
style_of (ErrContent e style) = style
style_of (TextContent text style) = style
style_of (FormulaContent index value style) = style
style_of (AnchorContent index area kind value style) = style
style_of (SpillContent anchor value style) = style

-- its value, in a language
abbrev pub value_of : Language → Content → CellValue
value_of l (EmptyContent style) = values.None
value_of l (BoolContent truth style) = values.Boolean truth
value_of l (NumContent amount style) = values.Number amount
value_of l (ErrContent e style) = values.String (error_word l e)
value_of l (TextContent text style) = values.String text
value_of l (FormulaContent index value style) = formula_value l value
value_of l (AnchorContent index area kind value style) = formula_value l value
value_of l (SpillContent anchor value style) = spill_value l value

-- the value's type
abbrev pub type_of : Content → CellType
type_of (EmptyContent style) = types.Number
type_of (BoolContent truth style) = types.LogicalValue
type_of (NumContent amount style) = types.Number
type_of (ErrContent e style) = types.ErrorValue
type_of (TextContent text style) = types.Text
type_of (FormulaContent index value style) = formula_type value
type_of (AnchorContent index area kind value style) = formula_type value
type_of (SpillContent anchor value style) = spill_type value

-- the content that a cell is, by the shared strings of its workbook
abbrev pub content_of : List (List ℕ) → Cell → Content
content_of strings (cells.EmptyCell style) = EmptyContent style
content_of strings (cells.BooleanCell truth style) = BoolContent truth style
content_of strings (cells.NumberCell amount style) = NumContent amount style
content_of strings (cells.ErrorCell e style) = ErrContent e style
content_of strings (cells.SharedString index style) = TextContent (string_at strings index) style
content_of strings (cells.CellFormula index style value) = FormulaContent index value style
content_of strings (cells.ArrayFormula kind index style area value) = AnchorContent index area kind value style
content_of strings (cells.SpillCell style anchor value) = SpillContent anchor value style

-- the formula at an index of a pool; past the end, an empty text
abbrev pub formula_in : List Formula → ℕ → Formula
formula_in pool index = unwrap_or (slice_get pool index) (formulas.Raw [])

-- How contents are held, for the rules on arrays, spills and clearing. ----

abbrev pub shape_of : Content → Shape
shape_of (EmptyContent style) = shapes.Empty
shape_of (BoolContent truth style) = shapes.Value
shape_of (NumContent amount style) = shapes.Value
shape_of (ErrContent e style) = shapes.Value
shape_of (TextContent text style) = shapes.Value
shape_of (FormulaContent index value style) = shapes.Formula
shape_of (AnchorContent index area kind value style) = shapes.Anchor area.0 area.1 kind
shape_of (SpillContent anchor value style) = shapes.SpillOf anchor

-- a formula with this value; other contents stay
abbrev pub with_formula_value : FormulaValue → Content → Content
with_formula_value value (FormulaContent index old style) = FormulaContent index value style
with_formula_value value (AnchorContent index area kind old style) = AnchorContent index area kind value style
with_formula_value value content = content

-- the formula of an array with this area; other contents stay
abbrev pub with_array_area : ℤ → ℤ → Content → Content
with_array_area width height (AnchorContent index area kind value style) = AnchorContent index (width, height) kind value style
with_array_area width height content = content

abbrev pub held : Holding Content
held = record {
  shape = shape_of;
  style = style_of;
  empty = λ style. EmptyContent style;
  with_value = with_formula_value;
  with_area = with_array_area;
  spill = λ style anchor value. SpillContent anchor value style;
  array = λ index style width height kind. AnchorContent index (width, height) kind fvalues.Unevaluated style;
}
