-- What finds the definitions of a book, and when it is true of them.
use Rattle.std.specs.Prelude.{◌≡◌, ℕ, suc, ◌+◌, ◌-◌, nat_eq, nat_lt, List, [], ◌∷◌, map, flat_map, Bool, ◌&&◌, false, Option, Some, None, String, bytes_eq, encode_utf8_all, option_map, option_to_list, string_bytes, if◌then◌else◌}
use Rattle.std.specs.BTreeMap.{BTreeMap, get_by}
use Rattle.std.specs.Cmp.Lexicographic.{slice_cmp}
use Rattle.std.specs.List.{AllByRecursion, IsDistinct}
use Rattle.std.specs.Option.{option_cmp}
use Rattle.std.specs.Ordering.{nat_cmp, ordering_then}
use Rattle.std.specs.declared.alloc.Global.{Global}
use Rattle.std.specs.declared.cmp.Ordering.{Ordering}
use Rattle.ic_laws.specs.CoreBook.{Definition, spelling_of}
use Rattle.ic_laws.specs.CoreStep.{updated_at}
use Rattle.ic_laws.specs.Greatest.{greatest}
use Rattle.ic_laws.specs.Scene.{key_of, same_key, same_scope}
use Rattle.ic_laws.specs.declared.scene.Scene.{Scene}
use Rattle.ic_laws.specs.declared.tree.NameKey.{NameKey}
use Rattle.ic_definitions.specs.Bodies.{HasFoundAll}

-- the key of a definition
abbrev pub key_in : Definition → NameKey
key_in definition = key_of (spelling_of definition)

-- what formulas can mention of these definitions, where there are no sheets
abbrev pub definitions_scene : List Definition → Scene
definitions_scene definitions = record { sheets = []; names = map spelling_of definitions }

-- and where the one at an index has another name and another scope
abbrev pub renamed_scene : ℕ → List ℕ → Option ℕ → List Definition → Scene
renamed_scene index name scope definitions = record { sheets = []; names = updated_at (λ m. record { name = name; scope = scope }) index (map spelling_of definitions) }

-- the index of the first definition with this key
abbrev pub index_with_key : NameKey → List Definition → Option ℕ
index_with_key key [] = None
index_with_key key (d ∷ ds) = if same_key (key_in d) key then Some 0 else option_map suc (index_with_key key ds)

-- there is a place, and it stands before this index
abbrev pub is_before : ℕ → Option ℕ → Bool
is_before index None = false
is_before index (Some place) = nat_lt place index

-- there is a place, and it is this index
abbrev pub is_there : ℕ → Option ℕ → Bool
is_there index None = false
is_there index (Some place) = nat_eq place index

-- an index, lowered by one where it is past this one
abbrev pub lowered : ℕ → ℕ → ℕ
lowered index place = if nat_lt index place then place - 1 else place

-- an index, raised by one unless it is before this one
abbrev pub raised : ℕ → ℕ → ℕ
raised index place = if nat_lt place index then place else place + 1

-- the ids that definitions are local to
abbrev pub scopes_of : List Definition → List ℕ
scopes_of definitions = flat_map (λ d. option_to_list d.scope) definitions

-- it is the id of a sheet, and greater than this one
abbrev pub is_past : ℕ → Option ℕ → Bool
is_past id None = false
is_past id (Some scope) = nat_lt id scope

-- ---- the look-up

-- a key as the look-up has it: a folded name, and the id that the definition is local to
abbrev pub HeldKey : Type 0
HeldKey = String Global × Option ℕ

-- the index of each definition by its key
abbrev pub Places : Type 0
Places = BTreeMap HeldKey ℕ

-- how the bytes of a name and a scope stand to a key: by the names, and then by the scopes
abbrev pub key_cmp : List ℕ → Option ℕ → HeldKey → Ordering
key_cmp bytes scope held = ordering_then (slice_cmp nat_cmp bytes (string_bytes held.0)) (option_cmp nat_cmp scope held.1)

-- what the look-up has at a key
abbrev pub place_at : Places → NameKey → Option ℕ
place_at places key = get_by (key_cmp (encode_utf8_all key.name) key.scope) places

-- a key as the look-up has it is this key
abbrev pub IsHeldKey : NameKey → HeldKey → Type 0
IsHeldKey key held = (string_bytes held.0 ≡ encode_utf8_all key.name) × (held.1 ≡ key.scope)

abbrev pub is_held_key : NameKey → HeldKey → Bool
is_held_key key held = bytes_eq (string_bytes held.0) (encode_utf8_all key.name) && same_scope held.1 key.scope

-- at each key a look-up has the index of the definition with that key, and nothing at any other
abbrev pub FindsNames : Places → List Definition → Type 0
FindsNames places definitions = (key : NameKey) → place_at places key ≡ index_with_key key definitions

-- what finds definitions by their keys finds those that they became
abbrev pub StillFinds : List Definition → List Definition → Type 0
StillFinds before after = (places : Places) → FindsNames places before → FindsNames places after

-- No two keys are equal; the greatest id is that of a scope; and where no body may dangle none does.
pub record AreNamed (last : ℕ) (may_dangle : Bool) (definitions : List Definition) : Type 0 where
  pub differ : IsDistinct same_key (map key_in definitions)
  pub greatest : last ≡ greatest (scopes_of definitions)
  pub dangles : may_dangle ≡ false → AllByRecursion HasFoundAll definitions
