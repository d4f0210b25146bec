-- What a place of a sheet holds, by its shape; and how it is emptied and reset. The rules on arrays, spills and clearing
-- look at nothing else, so they hold for cells and for whatever else a place holds.
use Rattle.std.specs.Ordering.{int_eq}
use Rattle.std.specs.Prelude.{ℕ, ℤ, pos, Bool, ◌&&◌, true, false, Option, Some, None}
use Rattle.ic_laws.specs.declared.tree.Error.TheVariants as errors
use Rattle.ic_cells.specs.Cell.{style_of}
use Rattle.ic_cells.specs.Note.{no_note}
use Rattle.ic_cells.specs.declared.cell.ArrayKind.{ArrayKind}
use Rattle.ic_cells.specs.declared.cell.ArrayKind.TheVariants as kinds
use Rattle.ic_cells.specs.declared.cell.Cell.{Cell}
use Rattle.ic_cells.specs.declared.cell.Cell.TheVariants as cells
use Rattle.ic_cells.specs.declared.value.FormulaValue.{FormulaValue}
use Rattle.ic_cells.specs.declared.value.FormulaValue.TheVariants as formulas
use Rattle.ic_cells.specs.declared.value.SpillValue.{SpillValue}
use Rattle.ic_cells.specs.declared.value.SpillValue.TheVariants as spills
use Rattle.ic_grid.specs.Block.{Place, same_place}

-- nothing but a style; a value; a formula with one value; the formula of an array, with the width, the height and the
-- kind of its area; another cell of the array whose formula stands at this place
pub data Shape : Type 0 where
  Empty : Shape
  Value : Shape
  Formula : Shape
  Anchor : (width height : ℤ) (kind : ArrayKind) → Shape
  SpillOf : (anchor : Place) → Shape

-- How something is held in a place: its shape and the number of its style; an empty cell with a style; the same formula
-- with another value, and the same array with another area; a spill's cell with a style, an anchor and a value; an array
-- formula without a value, with the index of its formula, a style, a width, a height and a kind.
pub record Holding (X : Type 0) : Type 0 where
  pub shape : X → Shape
  pub style : X → ℕ
  pub empty : ℕ → X
  pub with_value : FormulaValue → X → X
  pub with_area : ℤ → ℤ → X → X
  pub spill : ℕ → Place → SpillValue → X
  pub array : ℕ → ℕ → ℤ → ℤ → ArrayKind → X

module _ {X : Type 0} (h : Holding X) where
  -- an empty cell with its style
  abbrev pub emptied : X → X
  emptied x = h.empty (h.style x)

  -- the formula of an array without a value, for its own cell alone
  abbrev pub reset : X → X
  reset x = h.with_area (pos 1) (pos 1) (h.with_value formulas.Unevaluated x)

-- a cell of the spill of the array whose formula stands at this place
abbrev pub is_spill_of : Place → Shape → Bool
is_spill_of a (SpillOf b) = same_place a b
is_spill_of a shape = false

-- nothing but a style
abbrev pub is_empty : Shape → Bool
is_empty Empty = true
is_empty shape = false

-- the formula of an array
abbrev pub is_anchor : Shape → Bool
is_anchor (Anchor width height kind) = true
is_anchor shape = false

-- neither a spill's cell nor the formula of an array of more than one cell
abbrev pub is_loose : Shape → Bool
is_loose (Anchor width height kind) = int_eq width (pos 1) && int_eq height (pos 1)
is_loose (SpillOf a) = false
is_loose shape = true

-- a formula, of an array or not
abbrev pub is_formula : Shape → Bool
is_formula Formula = true
is_formula (Anchor width height kind) = true
is_formula shape = false

-- the array takes up its area whatever its values are
abbrev pub is_cse : ArrayKind → Bool
is_cse kinds.Dynamic = false
is_cse kinds.Cse = true

-- the value of a formula as a spill's cell has it: none at all is the error ERROR
abbrev pub spread : FormulaValue → SpillValue
spread formulas.Unevaluated = spills.Error errors.ERROR
spread (formulas.Boolean b) = spills.Boolean b
spread (formulas.Number n) = spills.Number n
spread (formulas.Text t) = spills.Text t
spread (formulas.Error e note) = spills.Error e

-- the value of a spill's cell as a formula has it
abbrev pub gathered : SpillValue → FormulaValue
gathered (spills.Boolean b) = formulas.Boolean b
gathered (spills.Number n) = formulas.Number n
gathered (spills.Text t) = formulas.Text t
gathered (spills.Error e) = formulas.Error e no_note

-- cells ----

abbrev pub shape_of : Cell → Shape
shape_of (cells.EmptyCell s) = Empty
shape_of (cells.BooleanCell v s) = Value
shape_of (cells.NumberCell v s) = Value
shape_of (cells.ErrorCell e s) = Value
shape_of (cells.SharedString i s) = Value
shape_of (cells.CellFormula f s v) = Formula
shape_of (cells.ArrayFormula kind f s r v) = Anchor r.0 r.1 kind
shape_of (cells.SpillCell s a v) = SpillOf a

-- a formula's cell with this value; other cells stay
abbrev pub with_cell_value : FormulaValue → Cell → Cell
with_cell_value value (cells.CellFormula f s v) = cells.CellFormula f s value
with_cell_value value (cells.ArrayFormula kind f s r v) = cells.ArrayFormula kind f s r value
with_cell_value value cell = cell

-- an array formula's cell with this area; other cells stay
abbrev pub with_cell_area : ℤ → ℤ → Cell → Cell
with_cell_area width height (cells.ArrayFormula kind f s r v) = cells.ArrayFormula kind f s (width, height) v
with_cell_area width height cell = cell

-- the index of the formula and the style of a formula with one value
abbrev pub single_formula : Option Cell → Option (ℕ × ℕ)
single_formula (Some (cells.CellFormula f s v)) = Some (f, s)
single_formula cell = None

-- how cells are held
abbrev pub celled : Holding Cell
celled = record {
  shape = shape_of;
  style = style_of;
  empty = λ s. cells.EmptyCell s;
  with_value = with_cell_value;
  with_area = with_cell_area;
  spill = λ s a v. cells.SpillCell s a v;
  array = λ f s width height kind. cells.ArrayFormula kind f s (width, height) formulas.Unevaluated;
}
