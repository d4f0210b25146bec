-- At which indexes sheets stand, by their ids.
use Rattle.std.specs.Prelude.{ℕ, ◌+◌, ◌-◌, ◌≤◌, List, [], ◌∷◌, ⊤, map, Option, Some, None, nat_eq, nat_lt, option_map, if◌then◌else◌}
use Rattle.std.specs.Coded.{×_prop, Unit-prop, le_prop}
use Rattle.ic_sheets.specs.declared.sheet.Sheet.{Sheet}
use Rattle.ic_sheets.specs.declared.sheets.spots.Spot.{Spot}

-- the index at an id
abbrev pub index_at : ℕ → List Spot → Option ℕ
index_at id [] = None
index_at id (s ∷ spots) = if nat_eq s.id id then Some s.index else index_at id spots

-- the ids rise from this one on, so that none comes twice
abbrev pub Rise : ℕ → List Spot → Type 0
Rise least [] = ⊤
Rise least (s ∷ spots) = (least ≤ s.id) × Rise (s.id + 1) spots

pub Rise-prop : (least : ℕ) (spots : List Spot) → IsProp (Rise least spots)
Rise-prop least [] = Unit-prop
Rise-prop least (s ∷ spots) = ×_prop le_prop (Rise-prop (s.id + 1) spots)

-- an index, lowered by one where it is past this one
abbrev pub lowered : ℕ → ℕ → ℕ
lowered index place = if nat_lt index place then place - 1 else place

-- an index, raised by one unless it is before this one
abbrev pub raised : ℕ → ℕ → ℕ
raised index place = if nat_lt place index then place else place + 1

-- where the sheet at an index stands after the one at the first index was put to the second
abbrev pub moved_index : ℕ → ℕ → ℕ → ℕ
moved_index from to place = if nat_eq place from then to else raised to (lowered from place)

-- the indexes changed by a function
abbrev pub with_indexes : (ℕ → ℕ) → List Spot → List Spot
with_indexes f spots = map (λ (s : Spot). record s { index = f s.index }) spots

-- the indexes of these sheets, of which the first stands at this one
abbrev pub spots_from : ℕ → List Sheet → List Spot
spots_from index [] = []
spots_from index (s ∷ sheets) = record { id = s.id; index = index } ∷ spots_from (index + 1) sheets

-- what is found of a sheet, by where it stands and what was found before, once those from the first index up to the second have theirs
abbrev pub renumbered : ℕ → ℕ → Option ℕ → Option ℕ → Option ℕ
renumbered from to None had = had
renumbered from to (Some at) had = if nat_lt at from then had else if nat_lt at to then option_map (λ q. at) had else had
