-- What the places of a sheet hold, as a finite map; and that each is made into another, or taken away.
use Rattle.std.specs.Prelude.{Bool, Option, Some, None, List, [], ◌∷◌, if◌then◌else◌}
use Rattle.std.specs.FinMap as finite
use Rattle.ic_cells.specs.Maps.{place_cmp}
use Rattle.ic_grid.specs.Block.{Place}

-- what stands at the places that hold something
abbrev pub Contents : Type 0 → Type 0
Contents X = finite.FinMap place_cmp X

module _ {X : Type 0} where
  -- at this place stands this, or nothing
  abbrev pub with_or_without : Contents X → Place → Option X → Contents X
  with_or_without m p (Some x) = finite.insert m p x
  with_or_without m p None = finite.remove m p

  abbrev pub remade_entries : (Place → X → Option X) → List (Place × X) → Contents X
  remade_entries f [] = finite.empty
  remade_entries f (e ∷ es) = with_or_without (remade_entries f es) e.0 (f e.0 e.1)

  -- what stands at each place is made into something else, or taken away
  unfoldable pub remade : (Place → X → Option X) → Contents X → Contents X
  remade f m = remade_entries f (finite.entries m)

  -- what stands at the places that pass a test is changed
  abbrev pub changed_where : (Place → Bool) → (X → X) → Contents X → Contents X
  changed_where test change m = remade (λ q x. Some (if test q then change x else x)) m
