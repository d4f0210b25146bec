-- What the sheets of a book keep beside them, and when it is true of them.
use Rattle.std.specs.Prelude.{◌≡◌, ℕ, List, [], ◌∷◌, Bool, true, false, ◌&&◌, ◌||◌, Option, Some, None, bytes_eq, length, map, nat_eq, nat_lt, encode_utf8_all, String, if◌then◌else◌}
use Rattle.std.specs.BTreeMap.{BTreeMap, get_by_text}
use Rattle.std.specs.List.{IsDistinct, list_any}
use Rattle.std.specs.declared.alloc.Global.{Global}
use Rattle.ic_laws.specs.Greatest.{greatest}
use Rattle.ic_laws.specs.Name.{agrees, fold}
use Rattle.ic_laws.specs.Scene.{same_scope}
use Rattle.ic_pool.specs.Pool.{dangling_places}
use Rattle.ic_sheets.specs.Search.{id_of, index_with_id}
use Rattle.ic_sheets.specs.Spots.{index_at}
use Rattle.ic_sheets.specs.declared.sheet.Sheet.{Sheet}
use Rattle.ic_sheets.specs.declared.sheets.spots.Spots.{Spots}

-- at each key a look-up of ids has that of the first sheet whose folded name is that key, and nothing at any other
abbrev pub FindsSheets : BTreeMap (String Global) ℕ → List Sheet → Type 0
FindsSheets ids sheets = (key : List ℕ) → get_by_text ids (encode_utf8_all key) ≡ id_of key sheets

-- what finds sheets by their names finds those that they became
abbrev pub StillFinds : List Sheet → List Sheet → Type 0
StillFinds before after = (ids : BTreeMap (String Global) ℕ) → FindsSheets ids before → FindsSheets ids after

-- at each id the look-up has the index of the sheet with that id
pub record AreAtIndexes (indexes : Spots) (sheets : List Sheet) : Type 0 where
  pub finds : (id : ℕ) → index_at id indexes.list.items ≡ index_with_id id sheets

-- what was found, unless it is this id
abbrev pub other_than : ℕ → Option ℕ → Option ℕ
other_than id None = None
other_than id (Some found) = if nat_eq found id then None else Some found

-- a look-up finds this id by the key of this name, and by no other
abbrev pub IsFoundBy : List ℕ → ℕ → BTreeMap (String Global) ℕ → Type 0
IsFoundBy name id ids = (key : List ℕ) → other_than id (get_by_text ids (encode_utf8_all key)) ≡ (if bytes_eq (fold name) key then None else get_by_text ids (encode_utf8_all key))

-- it loses the key of this name, and nothing else
abbrev pub LosesName : List ℕ → BTreeMap (String Global) ℕ → BTreeMap (String Global) ℕ → Type 0
LosesName name before after = (key : List ℕ) → get_by_text after (encode_utf8_all key) ≡ (if bytes_eq (fold name) key then None else get_by_text before (encode_utf8_all key))

-- some formula of a sheet mentions something that wasn't found
abbrev pub dangles : Sheet → Bool
dangles sheet = nat_lt 0 (length (dangling_places sheet.pool.formulas))

-- the sheet with this id is one of those in which something dangles
abbrev pub dangles_at : ℕ → List Sheet → Bool
dangles_at id sheets = list_any (λ s. nat_eq id s.id && dangles s) sheets

-- an id is one of these
abbrev pub is_listed : ℕ → List ℕ → Bool
is_listed id ids = list_any (nat_eq id) ids

-- these ids stand among those, in the same order
abbrev pub is_part : List ℕ → List ℕ → Bool
is_part [] all = true
is_part (id ∷ ids) [] = false
is_part (id ∷ ids) (other ∷ others) = if nat_eq id other then is_part ids others else is_part (id ∷ ids) others

-- These are the ids of the sheets in which something dangles, each once.
pub record AreDangling (ids : List ℕ) (sheets : List Sheet) : Type 0 where
  pub finds : (id : ℕ) → is_listed id ids ≡ dangles_at id sheets
  pub differ : IsDistinct nat_eq ids

-- an id is that of one of these sheets
abbrev pub is_id : ℕ → List Sheet → Bool
is_id id sheets = list_any (nat_eq id) (map (λ s. s.id) sheets)

-- These are the ids of the sheets in which something dangles, and of the sheet with this id, where there is one, each once.
pub record AreLookedAt (whole : Option ℕ) (ids : List ℕ) (sheets : List Sheet) : Type 0 where
  pub finds : (id : ℕ) → is_listed id ids ≡ (dangles_at id sheets || same_scope whole (Some id) && is_id id sheets)
  pub differ : IsDistinct nat_eq ids

-- No two names agree and no two ids are equal, and the greatest id is that of the sheets.
pub record AreKept (last : ℕ) (sheets : List Sheet) : Type 0 where
  pub names_differ : IsDistinct agrees (map (λ s. s.name) sheets)
  pub ids_differ : IsDistinct nat_eq (map (λ s. s.id) sheets)
  pub greatest : last ≡ greatest (map (λ s. s.id) sheets)
