-- The longest text at the front of another that spells something. What spells what is given as a relation.
use Rattle.std.specs.Prelude.{◌≡◌, ℕ, ◌+◌, ◌-◌, ◌≤◌, List, ◌++◌, drop, length, Bool, ◌&&◌, ◌||◌, nat_lt, nat_le, slice_index, Option, Some, None, option_map, chars, encode_utf8_all, if◌then◌else◌}
use Rattle.std.specs.Str.{IsCharBoundary}

-- rest stands after the longest text at the front that spells anything, and what it spells is value
pub record IsLongest {T : Type 0} (Spells : List ℕ → T → Type 0) (text : List ℕ) (value : T) (rest : List ℕ) : Type 0 where
  pub front : List ℕ
  pub whole : text ≡ front ++ rest
  pub spelled : Spells front value
  pub longest : (other after : List ℕ) (v : T) → text ≡ other ++ after → Spells other v → length other ≤ length front

-- what a reader finds at the front of a text, with what stands after it; nothing only where nothing is spelled there
abbrev pub FindsLongest : {T : Type 0} → (List ℕ → T → Type 0) → List ℕ → Option (T × List ℕ) → Type 0
FindsLongest {T} Spells text None = (front rest : List ℕ) (v : T) → text ≡ front ++ rest → Spells front v → ⊥
FindsLongest Spells text (Some found) = IsLongest Spells text found.0 found.1

-- the same at a byte of a text, with the number of bytes; nothing begins past the end or inside a character
abbrev pub FindsLongestAt : {T : Type 0} → (List ℕ → T → Type 0) → List ℕ → ℕ → Option (T × ℕ) → Type 0
FindsLongestAt {T} Spells text at None =
    IsCharBoundary text at → (front rest : List ℕ) (v : T) → chars (drop at text) ≡ front ++ rest → Spells front v → ⊥
FindsLongestAt Spells text at (Some found) =
    IsCharBoundary text at
    × ((rest : List ℕ) × IsLongest Spells (chars (drop at text)) found.0 rest × (found.1 + length (encode_utf8_all rest) ≡ length (drop at text)))

-- the same as tests and functions
abbrev pub is_char_boundary : List ℕ → ℕ → Bool
is_char_boundary text at =
    nat_le at (length text) && (nat_le (length text) at || nat_lt (slice_index text at) 128 || nat_le 192 (slice_index text at))

-- what is read at a byte of a text, with its number of bytes
abbrev pub read_at : {T : Type 0} → (List ℕ → Option (T × List ℕ)) → List ℕ → ℕ → Option (T × ℕ)
read_at reader text at =
    if is_char_boundary text at then option_map (λ found. (found.0, length (drop at text) - length (encode_utf8_all found.1))) (reader (chars (drop at text)))
    else None
