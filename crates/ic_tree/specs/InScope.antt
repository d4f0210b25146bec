-- The variables of LET and LAMBDA that are in scope, and how they are found by their folded names.
use Rattle.std.specs.Prelude.{◌≡◌, ◌&&◌, ◌==◌, ℕ, suc, List, [], ◌∷◌, Bool, Option, Some, None, bytes_eq, encode_utf8_all, option_map, String, if◌then◌else◌}
use Rattle.std.specs.BTreeMap.{BTreeMap, get_by_text}
use Rattle.std.specs.declared.alloc.Global.{Global}
use Rattle.ic_laws.specs.Binding.{Binders}
use Rattle.ic_laws.specs.Name.{fold}

-- a name's key: its folding, in bytes
abbrev pub key_of : List ℕ → List ℕ
key_of name = encode_utf8_all (fold name)

-- the place of the first variable with a key, from 0
abbrev pub place_of : List ℕ → Binders → Option ℕ
place_of key [] = None
place_of key (name ∷ names) = if bytes_eq (key_of name) key then Some 0 else option_map suc (place_of key names)

-- at each key the look-up has the place of the first variable with it
pub record AreFound (places : BTreeMap (String Global) ℕ) (names : Binders) : Type 0 where
  pub finds : (key : List ℕ) → get_by_text places key ≡ place_of key names

-- what is found once a variable came to this place, by whether it has the key that is looked for
abbrev pub or_last : Bool → ℕ → Option ℕ → Option ℕ
or_last has place None = if has then Some place else None
or_last has place (Some first) = Some first

-- what is found once the variable at this place went, by whether it had the key that is looked for
abbrev pub but_last : Bool → ℕ → Option ℕ → Option ℕ
but_last had place None = None
but_last had place (Some first) = if had && (first == place) then None else Some first
