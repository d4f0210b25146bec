-- One way to hold things in places is seen as another: what the rules on arrays, spills and clearing look at and make is
-- seen as the same.
use Rattle.std.specs.Prelude.{◌≡◌, ℕ, ℤ, map}
use Rattle.std.specs.FinMap as finite
use Rattle.ic_cells.specs.declared.cell.ArrayKind.{ArrayKind}
use Rattle.ic_cells.specs.declared.value.FormulaValue.{FormulaValue}
use Rattle.ic_cells.specs.declared.value.SpillValue.{SpillValue}
use Rattle.ic_grid.specs.Block.{Place}
use Rattle.ic_grid.specs.Contents.{Contents}
use Rattle.ic_grid.specs.Shape.{Holding}

pub record HoldsAlike {X Y : Type 0} (f : X → Y) (one : Holding X) (other : Holding Y) : Type 0 where
  pub shape : (x : X) → other.shape (f x) ≡ one.shape x
  pub style : (x : X) → other.style (f x) ≡ one.style x
  pub empty : (style : ℕ) → other.empty style ≡ f (one.empty style)
  pub with_value : (value : FormulaValue) (x : X) → other.with_value value (f x) ≡ f (one.with_value value x)
  pub with_area : (width height : ℤ) (x : X) → other.with_area width height (f x) ≡ f (one.with_area width height x)
  pub spill : (style : ℕ) (anchor : Place) (value : SpillValue) → other.spill style anchor value ≡ f (one.spill style anchor value)
  pub array : (index style : ℕ) (width height : ℤ) (kind : ArrayKind) → other.array index style width height kind ≡ f (one.array index style width height kind)

-- contents with what stands at each place seen so
unfoldable pub seen_by : {X Y : Type 0} → (X → Y) → Contents X → Contents Y
seen_by f m = finite.from_sorted (map (λ e. (e.0, f e.1)) (finite.entries m))
