-- Where an item stands in a list, and lists in which no item stands twice. A test says which items are the same.
use Rattle.std.specs.Prelude.{◌≡◌, ◌≢◌, ℕ, suc, ◌<◌, ◌≤◌, List, [], ◌∷◌, ◌++◌, length, Bool, true, not, ◌&&◌, Option, Some, None, is_some, option_map, unwrap_or, if◌then◌else◌}
use Rattle.std.specs.List.{slice_get}

-- the first place at which an item stands in a list, from 0
abbrev pub place_in : {X : Type 0} → (X → X → Bool) → X → List X → Option ℕ
place_in same x [] = None
place_in same x (y ∷ ys) = if same x y then Some 0 else option_map suc (place_in same x ys)

-- the number that an item gets: its first place, or the one at the end where it stands nowhere
abbrev pub number_in : {X : Type 0} → (X → X → Bool) → X → List X → ℕ
number_in same x xs = unwrap_or (place_in same x xs) (length xs)

-- the list with an item at its end, unless it stands in it
abbrev pub with_item_in : {X : Type 0} → (X → X → Bool) → X → List X → List X
with_item_in same x xs = if is_some (place_in same x xs) then xs else xs ++ x ∷ []

-- no two of these items are the same
abbrev pub are_apart : {X : Type 0} → (X → X → Bool) → List X → Bool
are_apart same [] = true
are_apart same (x ∷ xs) = not (is_some (place_in same x xs)) && are_apart same xs

-- an item stands in a list at this place, and at none before
pub record IsFirstAt {X : Type 0} (x : X) (at : ℕ) (xs : List X) : Type 0 where
  pub here : slice_get xs at ≡ Some x
  pub none_before : (k : ℕ) → k < at → slice_get xs k ≢ Some x

-- a list has an item first at this place; it is as before where it had the item, and else has it at its end
pub record IsPlaced {X : Type 0} (x : X) (at : ℕ) (before after : List X) : Type 0 where
  pub first : IsFirstAt x at after
  pub found : at < length before → after ≡ before
  pub pushed : length before ≤ at → after ≡ before ++ x ∷ []
