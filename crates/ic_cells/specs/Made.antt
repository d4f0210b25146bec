-- An item that is made for a place of a map.
use Rattle.std.specs.Prelude.{◌≡◌, ℤ, Option, Some, None, is_some, true}
use Rattle.std.specs.FinMap as map
use Rattle.std.specs.FinMap.{FinMap}
use Rattle.ic_cells.specs.Maps.{place_cmp}

-- Where nothing stood at the place, an item has been made of what was given, and stands there now; where something did,
-- what was given is left, and nothing has changed.
abbrev pub PutsMade : {M X T : Type 0} → (M → X → T → M → Type 0) → ℤ × ℤ → X → M → M → FinMap place_cmp T → FinMap place_cmp T → Option X → Type 0
PutsMade makes place given maker after before map_after None =
    (item : _) × makes maker given item after × (map.get before place ≡ None) × (map_after ≡ map.insert before place item)
PutsMade makes place given maker after before map_after (Some left) =
    (left ≡ given) × (is_some (map.get before place) ≡ true) × (after ≡ maker) × (map_after ≡ before)
