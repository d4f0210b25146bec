-- What becomes of a sheet when a formula gets a value.
use Rattle.std.specs.Prelude.{◌≡◌, ℕ, pos, Option, None, Some, Bool, false, option_map, if◌then◌else◌}
use Rattle.std.specs.FinMap as finite
use Rattle.std.specs.Option.{unwrap_or}
use Rattle.ic_cells.specs.declared.cell.Cell.{Cell}
use Rattle.ic_cells.specs.declared.cell.Cell.TheVariants as cells
use Rattle.ic_grid.specs.declared.block.Array.{Array}
use Rattle.ic_cells.specs.declared.value.FormulaValue.{FormulaValue}
use Rattle.ic_grid.specs.Block.{Place, block_at, first_place, same_place}
use Rattle.ic_grid.specs.Contents.{Contents, remade}
use Rattle.ic_grid.specs.Shape.{Holding, Shape, Empty, Anchor, emptied, is_cse, is_spill_of, spread}

-- the formula at this place is that of a Cse array
abbrev pub is_cse_anchor : Shape → Bool
is_cse_anchor (Anchor width height kind) = is_cse kind
is_cse_anchor shape = false

module _ {X : Type 0} (h : Holding X) where
  -- the shape of what a place holds; nothing at all is as an empty cell
  abbrev pub shape_at : Contents X → Place → Shape
  shape_at m p = unwrap_or (option_map h.shape (finite.get m p)) Empty

  -- what becomes of something when the formula at a place, of a Cse array or not, gets a value. The cells of a Cse
  -- array all get it. A dynamic one keeps its own cell alone, and its spill is emptied.
  abbrev pub valued_cell : Bool → FormulaValue → Place → Place → X → X
  valued_cell cse value a q x =
      if same_place q a then h.with_value value (if cse then x else h.with_area (pos 1) (pos 1) x)
      else if is_spill_of a (h.shape x) then (if cse then h.spill (h.style x) a (spread value) else emptied h x)
      else x

  -- the formula at a place gets a value
  abbrev pub valued : Place → FormulaValue → Contents X → Contents X
  valued a value m = remade (λ q x. Some (valued_cell (is_cse_anchor (shape_at m a)) value a q x)) m

-- the formula, the style and the array of an array formula at a place
abbrev pub formula_array : Place → Option Cell → Option (ℕ × ℕ × Array)
formula_array p (Some (cells.ArrayFormula kind f s r v)) = Some (f, s, record { block = block_at p r.0 r.1; kind = kind })
formula_array p cell = None

-- such a formula stands at the first place of its array
abbrev pub IsArrayThere : Contents Cell → ℕ → ℕ → Array → Type 0
IsArrayThere m f s array = formula_array (first_place array.block) (finite.get m (first_place array.block)) ≡ Some (f, s, array)
