-- Names with a number in them that sheets have.
use Rattle.std.specs.Prelude.{◌≡◌, ℕ, ◌+◌, Bool, true, false, List, ◌++◌, slice_index_or}
use Rattle.std.specs.Fmt.{decimal}
use Rattle.std.specs.List.{list_any}
use Rattle.ic_laws.specs.Name.{agrees}

-- A place is marked only where one of these names agrees with the one that has the place's number, from 1.
abbrev pub AreMarked : (ℕ → List ℕ) → List (List ℕ) → List Bool → Type 0
AreMarked name names marks = (i : ℕ) → slice_index_or marks i false ≡ true → list_any (agrees (name (i + 1))) names ≡ true

-- a word with a number behind it
abbrev pub numbered : List ℕ → ℕ → List ℕ
numbered word n = word ++ decimal n
