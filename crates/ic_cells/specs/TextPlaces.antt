-- Where the texts of a list are found by their bytes: most by a hash, where the text at the index then says whether it has
-- these bytes, the others by the bytes themselves.
use Rattle.std.specs.Prelude.{◌≡◌, ◌⊎◌, ◌<◌, ◌%◌, ◌^◌, ℕ, List, length, Bool, false, Option, Some, None, bytes_eq, encode_utf8_all, nat_eq, nat_lt, if◌then◌else◌}
use Rattle.std.specs.BTreeMap.{get, get_by_text}
use Rattle.std.specs.Hash.FoldHasher as folding
use Rattle.std.specs.List.{slice_get}
use Rattle.std.specs.Ordering.{nat_cmp}
use Rattle.ic_cells.specs.Key.{place_by_key}
use Rattle.ic_cells.specs.declared.text_places.TextPlaces.{TextPlaces}

-- the hash of a text's bytes, below 2^32. It tells nothing that anybody may rely on; equal bytes have equal hashes
unfoldable pub hash_of : List ℕ → ℕ
hash_of bytes = folding.finish (folding.write folding.initial bytes) % 2 ^ 32

-- a text, if there is one, has these bytes
abbrev pub has_bytes : List ℕ → Option (List ℕ) → Bool
has_bytes bytes None = false
has_bytes bytes (Some text) = bytes_eq bytes (encode_utf8_all text)

-- an index, if there is one and the text there has these bytes
abbrev pub checked : List (List ℕ) → List ℕ → Option ℕ → Option ℕ
checked texts bytes None = None
checked texts bytes (Some at) = if has_bytes bytes (slice_get texts at) then Some at else None

-- the first of two indexes that there is
abbrev pub first_of : Option ℕ → Option ℕ → Option ℕ
first_of None other = other
first_of (Some at) other = Some at

-- the index that is found by a text's bytes
abbrev pub text_found : TextPlaces → List (List ℕ) → List ℕ → Option ℕ
text_found places texts bytes = first_of (checked texts bytes (get nat_cmp places.by_hash (hash_of bytes))) (get_by_text places.by_text bytes)

-- each text is found at its first place; no index lies past the end, and none of those by bytes is another's
pub record Finds (places : TextPlaces) (texts : List (List ℕ)) : Type 0 where
  pub found : (bytes : List ℕ) → text_found places texts bytes ≡ place_by_key encode_utf8_all bytes texts
  pub within : (hash at : ℕ) → get nat_cmp places.by_hash hash ≡ Some at → at < length texts
  pub are_first : (bytes : List ℕ) (at : ℕ) → get_by_text places.by_text bytes ≡ Some at → place_by_key encode_utf8_all bytes texts ≡ Some at

-- it has no indexes
pub record HasNone (places : TextPlaces) : Type 0 where
  pub by_hash : (hash : ℕ) → get nat_cmp places.by_hash hash ≡ None
  pub by_text : (bytes : List ℕ) → get_by_text places.by_text bytes ≡ None

-- both have the same indexes
pub record IsSame (before after : TextPlaces) : Type 0 where
  pub by_hash : (hash : ℕ) → get nat_cmp after.by_hash hash ≡ get nat_cmp before.by_hash hash
  pub by_text : (bytes : List ℕ) → get_by_text after.by_text bytes ≡ get_by_text before.by_text bytes

-- an index was put under the hash of these bytes, where none stood there
pub record IsHashed (bytes : List ℕ) (at : ℕ) (before after : TextPlaces) : Type 0 where
  pub none : get nat_cmp before.by_hash (hash_of bytes) ≡ None
  pub by_hash : (hash : ℕ) → get nat_cmp after.by_hash hash ≡ (if nat_eq (hash_of bytes) hash then Some at else get nat_cmp before.by_hash hash)
  pub by_text : (other : List ℕ) → get_by_text after.by_text other ≡ get_by_text before.by_text other

-- an index was put under these bytes
pub record IsKept (bytes : List ℕ) (at : ℕ) (before after : TextPlaces) : Type 0 where
  pub by_hash : (hash : ℕ) → get nat_cmp after.by_hash hash ≡ get nat_cmp before.by_hash hash
  pub by_text : (other : List ℕ) → get_by_text after.by_text other ≡ (if bytes_eq bytes other then Some at else get_by_text before.by_text other)

-- one of the two
abbrev pub IsPut : List ℕ → ℕ → TextPlaces → TextPlaces → Type 0
IsPut bytes at before after = IsHashed bytes at before after ⊎ IsKept bytes at before after

-- an index, if it is below this
abbrev pub below : ℕ → Option ℕ → Option ℕ
below len None = None
below len (Some at) = if nat_lt at len then Some at else None

-- the indexes below this one stay alone
pub record KeepsFirst (len : ℕ) (before after : TextPlaces) : Type 0 where
  pub by_hash : (hash : ℕ) → get nat_cmp after.by_hash hash ≡ below len (get nat_cmp before.by_hash hash)
  pub by_text : (bytes : List ℕ) → get_by_text after.by_text bytes ≡ below len (get_by_text before.by_text bytes)
