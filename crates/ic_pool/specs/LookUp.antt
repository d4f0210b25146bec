-- Where formulas are found by their keys: some by the key itself, the others by a hash of it, where the formula at the place
-- then says whether it has that key.
use Rattle.std.specs.Prelude.{◌≡◌, ◌⊎◌, ℕ, List, Bool, false, Option, Some, None, bytes_eq, nat_eq, option_map, if◌then◌else◌}
use Rattle.std.specs.BTreeMap.{get}
use Rattle.std.specs.List.{slice_get}
use Rattle.std.specs.Ordering.{nat_cmp}
use Rattle.ic_laws.specs.declared.tree.Formula.{Formula}
use Rattle.ic_pool.specs.Code.{code}
use Rattle.ic_pool.specs.Hash.{hash_of, key_cmp}
use Rattle.ic_pool.specs.declared.look_up.LookUp.{LookUp}

-- a formula, if there is one, has this key
abbrev pub has_key : List ℕ → Option Formula → Bool
has_key key None = false
has_key key (Some x) = bytes_eq key (code x)

-- a place, if there is one and the formula there has this key
abbrev pub checked : List Formula → List ℕ → Option ℕ → Option ℕ
checked formulas key None = None
checked formulas key (Some at) = if has_key key (slice_get formulas at) then Some at else None

-- the first of two places that there is
abbrev pub first_of : Option ℕ → Option ℕ → Option ℕ
first_of None other = other
first_of (Some at) other = Some at

-- the place that is found by a key
abbrev pub found : LookUp → List Formula → List ℕ → Option ℕ
found look formulas key = first_of (get key_cmp look.by_key key) (checked formulas key (get nat_cmp look.by_hash (hash_of key)))

-- each place by a hash is that of a formula whose key has the hash
abbrev pub AreHashed : LookUp → List Formula → Type 0
AreHashed look formulas = (hash at : ℕ) → get nat_cmp look.by_hash hash ≡ Some at → option_map (λ x. hash_of (code x)) (slice_get formulas at) ≡ Some hash

-- it has no places
pub record IsEmpty (look : LookUp) : Type 0 where
  pub by_hash : (hash : ℕ) → get nat_cmp look.by_hash hash ≡ None
  pub by_key : (key : List ℕ) → get key_cmp look.by_key key ≡ None

-- both have the same places
pub record IsSame (before after : LookUp) : Type 0 where
  pub by_hash : (hash : ℕ) → get nat_cmp after.by_hash hash ≡ get nat_cmp before.by_hash hash
  pub by_key : (key : List ℕ) → get key_cmp after.by_key key ≡ get key_cmp before.by_key key

-- a place was put under a key
pub record IsKept (key : List ℕ) (at : ℕ) (before after : LookUp) : Type 0 where
  pub by_hash : (hash : ℕ) → get nat_cmp after.by_hash hash ≡ get nat_cmp before.by_hash hash
  pub by_key : (other : List ℕ) → get key_cmp after.by_key other ≡ (if bytes_eq key other then Some at else get key_cmp before.by_key other)

-- a place was put under the hash of a key, where nothing stood under either
pub record IsHashed (key : List ℕ) (at : ℕ) (before after : LookUp) : Type 0 where
  pub none : get nat_cmp before.by_hash (hash_of key) ≡ None
  pub none_kept : get key_cmp before.by_key key ≡ None
  pub by_hash : (hash : ℕ) → get nat_cmp after.by_hash hash ≡ (if nat_eq (hash_of key) hash then Some at else get nat_cmp before.by_hash hash)
  pub by_key : (other : List ℕ) → get key_cmp after.by_key other ≡ get key_cmp before.by_key other

-- a place was put under the hash of a key, or under the key
abbrev pub IsPut : List ℕ → ℕ → LookUp → LookUp → Type 0
IsPut key at before after = IsHashed key at before after ⊎ IsKept key at before after

-- a place that was met was put under a key; where none was met, this one was put
abbrev pub IsMetOrPut : List ℕ → ℕ → Option ℕ → LookUp → LookUp → Type 0
IsMetOrPut key at None before after = IsPut key at before after
IsMetOrPut key at (Some other) before after = IsKept key other before after

-- a place, if there is one, is this
abbrev pub is_place : ℕ → Option ℕ → Bool
is_place at None = false
is_place at (Some other) = nat_eq other at

-- a place, if it is another than this
abbrev pub apart_from : ℕ → Option ℕ → Option ℕ
apart_from at place = if is_place at place then None else place

-- what stood under a key was taken out, and this place, where it stood under the hash of the key
pub record IsLeftOut (key : List ℕ) (at : ℕ) (before after : LookUp) : Type 0 where
  pub by_hash : (hash : ℕ) → get nat_cmp after.by_hash hash ≡ (if nat_eq (hash_of key) hash then apart_from at (get nat_cmp before.by_hash hash) else get nat_cmp before.by_hash hash)
  pub by_key : (other : List ℕ) → get key_cmp after.by_key other ≡ (if bytes_eq key other then None else get key_cmp before.by_key other)
