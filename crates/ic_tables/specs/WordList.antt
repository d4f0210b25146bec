-- Lists of words as texts with one blank between two words.
use Rattle.std.specs.Prelude.{ℕ, List, Bool, ◌==◌, not}
use Rattle.std.specs.List.{slice_split}
use Rattle.ic_laws.specs.Character.{blank}

-- the characters of words
abbrev pub is_inside : ℕ → Bool
is_inside c = not (c == blank)

-- the words of a text: what stands between its blanks
unfoldable pub words_in : List ℕ → List (List ℕ)
words_in text = slice_split (λ c. c == blank) text
