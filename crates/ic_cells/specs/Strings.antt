-- The texts that the cells of a workbook share, each once, and where one stands among them.
use Rattle.std.specs.Prelude.{◌≡◌, ℕ, List, Option, true, bytes_eq}
use Rattle.ic_cells.specs.Listed.{are_apart, number_in, place_in, with_item_in}
use Rattle.ic_cells.specs.TextPlaces.{Finds}
use Rattle.ic_cells.specs.declared.text_places.TextPlaces.{TextPlaces}

-- the first place at which a text stands among the shared ones, from 0
abbrev pub string_place : List ℕ → List (List ℕ) → Option ℕ
string_place text strings = place_in bytes_eq text strings

-- the index that a text gets: its first place, or the one at the end where it stands nowhere
abbrev pub string_index : List ℕ → List (List ℕ) → ℕ
string_index text strings = number_in bytes_eq text strings

-- the shared texts with a text at their end, unless it is one of them
abbrev pub with_string : List ℕ → List (List ℕ) → List (List ℕ)
with_string text strings = with_item_in bytes_eq text strings

-- what the shared texts are: no text stands twice
pub record AreStrings (strings : List (List ℕ)) : Type 0 where
  pub different : are_apart bytes_eq strings ≡ true

-- what always holds: no text stands twice, and each is found
pub record IsKnown (places : TextPlaces) (strings : List (List ℕ)) : Type 0 where
  pub finds : Finds places strings
  pub are_strings : AreStrings strings
