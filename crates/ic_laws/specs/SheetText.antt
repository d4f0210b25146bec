-- A sheet's name as it stands before a `!`, and a word with the name of a sheet before it, `T!tax`.
use Rattle.std.specs.Prelude.{◌≡◌, ℕ, List, [], ◌∷◌, ◌++◌, Bool, false, true, ◌&&◌, ◌==◌, ◌⊎◌, Option, Some, None, flat_map, option_map, option_and_then, if◌then◌else◌}
use Rattle.ic_laws.specs.Character.{bang, quote}
use Rattle.ic_laws.specs.Name.{in_quotes, is_identifier, is_sheet_name, needs_quotes, quoted}
use Rattle.ic_laws.specs.Scan.{is_plain, is_word_character, run_of, past_run}

-- the mark after a sheet's name, and the one round it
abbrev pub is_bang : ℕ → Bool
is_bang c = c == bang

abbrev pub is_quote : ℕ → Bool
is_quote c = c == quote

-- a sheet's name is written between quotes, or without where it needs none, with a `!` after it; no name is written
-- as nothing
abbrev pub SpellsSheet : List ℕ → Option (List ℕ) → Type 0
SpellsSheet text None = text ≡ []
SpellsSheet text (Some name) =
    (is_sheet_name name ≡ true) × ((text ≡ in_quotes name ++ bang ∷ []) ⊎ ((needs_quotes name ≡ false) × (text ≡ name ++ bang ∷ [])))

-- how a sheet's name is spelled before what it is the sheet of
abbrev pub sheet_text : Option (List ℕ) → List ℕ
sheet_text None = []
sheet_text (Some name) = quoted name ++ bang ∷ []

-- a character of a name as it stands between quotes, and a whole name
abbrev pub doubled_char : ℕ → List ℕ
doubled_char c = if is_quote c then quote ∷ quote ∷ [] else c ∷ []

abbrev pub doubled : List ℕ → List ℕ
doubled name = flat_map doubled_char name

-- a character in front of a text that was read
abbrev pub onto_text : ℕ → Option (List ℕ × List ℕ) → Option (List ℕ × List ℕ)
onto_text c read = option_map (λ f. (c ∷ f.0, f.1)) read

-- the name after an opening quote, and what stands after the quote that closes it
abbrev pub name_in_quotes : List ℕ → Option (List ℕ × List ℕ)
name_in_quotes [] = None
name_in_quotes (c ∷ []) = if is_quote c then Some ([], []) else None
name_in_quotes (c ∷ d ∷ cs) =
    if is_quote c then (if is_quote d then onto_text quote (name_in_quotes cs) else Some ([], d ∷ cs)) else onto_text c (name_in_quotes (d ∷ cs))

-- the name at the front, as it may stand before a `!`
abbrev pub written_name : List ℕ → Option (List ℕ × List ℕ)
written_name [] = None
written_name (c ∷ cs) =
    if is_quote c then name_in_quotes cs
    else if needs_quotes (run_of is_plain (c ∷ cs)) then None
    else Some (run_of is_plain (c ∷ cs), past_run is_plain (c ∷ cs))

-- a sheet's name has a `!` after it
abbrev pub before_bang : List ℕ → List ℕ → Option (List ℕ × List ℕ)
before_bang name [] = None
before_bang name (c ∷ rest) = if is_bang c && is_sheet_name name then Some (name, rest) else None

-- the sheet's name at the front, and what stands after its `!`
abbrev pub sheet_at : List ℕ → Option (List ℕ × List ℕ)
sheet_at text = option_and_then (λ f. before_bang f.0 f.1) (written_name text)

-- A word with its sheet: the sheet's name with its `!`, and an identifier.
pub record SpellsLocal (text sheet word : List ℕ) : Type 0 where
  pub before : List ℕ
  pub whole : text ≡ before ++ word
  pub named : SpellsSheet before (Some sheet)
  pub identifier : is_identifier word ≡ true

-- in its canonical spelling the name has quotes where it needs them
abbrev pub local_text : List ℕ → List ℕ → List ℕ
local_text sheet word = sheet_text (Some sheet) ++ word

-- the sheet's name and the word, and what stands after them
abbrev pub ReadLocal : Type 0
ReadLocal = Option ((List ℕ × List ℕ) × List ℕ)

-- after the `!` of a sheet's name: the whole run of word characters, where it is an identifier
abbrev pub word_of_sheet : List ℕ → List ℕ → ReadLocal
word_of_sheet sheet text =
    if is_identifier (run_of is_word_character text) then Some ((sheet, run_of is_word_character text), past_run is_word_character text) else None

-- the word with its sheet at the front
unfoldable pub read_local : List ℕ → ReadLocal
read_local text = option_and_then (λ f. word_of_sheet f.0 f.1) (sheet_at text)
