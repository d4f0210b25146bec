-- The formulas of a sheet, each at its place, and where each stands first.
use Rattle.std.specs.Prelude.{◌≡◌, ◌≢◌, ℕ, suc, ◌<◌, ◌≤◌, List, [], ◌∷◌, ◌++◌, Bool, true, false, Option, Some, None, length, option_map, bytes_eq, nat_eq, if◌then◌else◌}
use Rattle.std.specs.List.{list_any, slice_get}
use Rattle.ic_laws.specs.declared.tree.Formula.{Formula}
use Rattle.ic_pool.specs.Code.{code}
use Rattle.ic_pool.specs.LookUp.{AreHashed, found}
use Rattle.ic_pool.specs.Mentions.{has_dangling}
use Rattle.ic_pool.specs.declared.look_up.LookUp.{LookUp}

-- what a pool is to contracts: its formulas in their places, from 0, and whether its look-up knows each of them
pub record PoolState : Type 0 where
  pub formulas : List Formula
  pub is_whole : Bool

-- a list has this item at this place, and at none before
pub record IsFirstAt {X : Type 0} (x : X) (at : ℕ) (xs : List X) : Type 0 where
  pub here : slice_get xs at ≡ Some x
  pub none_before : (k : ℕ) → k < at → slice_get xs k ≢ Some x

-- The item stands first at this place of the list after. Where it was in the list before, nothing has changed; else it was
-- put at the end.
pub record IsPlaced {X : Type 0} (x : X) (at : ℕ) (before after : List X) : Type 0 where
  pub first : IsFirstAt x at after
  pub found : at < length before → after ≡ before
  pub pushed : length before ≤ at → after ≡ before ++ x ∷ []

-- the first place of a formula with this key
abbrev pub first_place : List ℕ → List Formula → Option ℕ
first_place key [] = None
first_place key (x ∷ xs) = if bytes_eq key (code x) then Some 0 else option_map suc (first_place key xs)

-- no formula with the same key stands before this place
abbrev pub IsFirstPlace : ℕ → List Formula → Type 0
IsFirstPlace at formulas = (key : List ℕ) × (first_place key formulas ≡ Some at)

-- The last formula has this key, and no other one does.
pub record EndsWithNew (key : List ℕ) (formulas : List Formula) : Type 0 where
  pub before : List Formula
  pub formula : Formula
  pub is : formulas ≡ before ++ formula ∷ []
  pub its : key ≡ code formula
  pub fresh : first_place key before ≡ None

-- by each key the look-up finds the first place of a formula with that key
pub record KeepsPlaces (find : List ℕ → Option ℕ) (formulas : List Formula) : Type 0 where
  pub finds : (key : List ℕ) → find key ≡ first_place key formulas

-- a place is one of these
abbrev pub is_among : ℕ → List ℕ → Bool
is_among at places = list_any (nat_eq at) places

-- What the look-up finds is true; and it finds each formula that stands at none of the late places, there or at a place before.
pub record KnowsRest (find : List ℕ → Option ℕ) (late : List ℕ) (formulas : List Formula) : Type 0 where
  pub is_true : (key : List ℕ) (at : ℕ) → find key ≡ Some at → option_map code (slice_get formulas at) ≡ Some key
  pub has_rest : (at : ℕ) (formula : Formula) → slice_get formulas at ≡ Some formula → is_among at late ≡ false
      → (first : ℕ) × (first ≤ at) × (find (code formula) ≡ Some first)

-- the places of the formulas that pass a test, where the first formula stands at this place
abbrev pub places_from : (Formula → Bool) → ℕ → List Formula → List ℕ
places_from test at [] = []
places_from test at (x ∷ xs) = if test x then at ∷ places_from test (suc at) xs else places_from test (suc at) xs

-- the places of the formulas that pass a test, in ascending order
abbrev pub places_where : (Formula → Bool) → List Formula → List ℕ
places_where test formulas = places_from test 0 formulas

-- those of the formulas that mention something that wasn't found, where the first formula stands at this place
abbrev pub dangling_from : ℕ → List Formula → List ℕ
dangling_from at formulas = places_from has_dangling at formulas

-- the places of the formulas that mention something that wasn't found, in ascending order
abbrev pub dangling_places : List Formula → List ℕ
dangling_places formulas = dangling_from 0 formulas

-- how many formulas mention something that wasn't found
abbrev pub dangling_count : List Formula → ℕ
dangling_count formulas = length (dangling_places formulas)

-- what one formula adds to that
abbrev pub dangling_weight : Formula → ℕ
dangling_weight formula = if has_dangling formula then 1 else 0

-- what a look-up that is whole, or knows all but those at the late places, finds is true, and its hashes are those of keys
pub record IsLookUp (index : LookUp) (is_whole knows_rest : Bool) (late : List ℕ) (formulas : List Formula) : Type 0 where
  pub finds : is_whole ≡ true → KeepsPlaces (found index formulas) formulas
  pub rest : knows_rest ≡ true → KnowsRest (found index formulas) late formulas
  pub hashed : AreHashed index formulas
