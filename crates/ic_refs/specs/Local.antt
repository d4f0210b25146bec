-- A word with its sheet at a byte of a text.
use Rattle.std.specs.Prelude.{◌≡◌, ℕ, ◌<◌, ◌^◌, List, ◌++◌, true, false, drop, length, Option, Some, None, chars, encode_utf8_all}
use Rattle.std.specs.Str.{IsCharBoundary}
use Rattle.ic_laws.specs.Amount.{unsigned_text}
use Rattle.ic_laws.specs.Dialect.{has_function_shape}
use Rattle.ic_laws.specs.Name.{is_variable_form}
use Rattle.ic_laws.specs.Scan.{first_is, is_word_character}
use Rattle.ic_laws.specs.SheetText.{SpellsLocal}

-- the name of the sheet and the word, and how many bytes they take
abbrev pub LocalAt : Type 0
LocalAt = (List ℕ × List ℕ) × ℕ

-- What begins at a byte: the text of a word with its sheet, up to the end of the word. Nothing only where none begins there.
abbrev pub FindsLocalAt : List ℕ → ℕ → Option LocalAt → Type 0
FindsLocalAt text at None =
    IsCharBoundary text at → (front rest sheet word : List ℕ) → chars (drop at text) ≡ front ++ rest → SpellsLocal front sheet word → first_is is_word_character rest ≡ false → ⊥
FindsLocalAt text at (Some found) =
    IsCharBoundary text at
    × ((front : List ℕ) × (rest : List ℕ) × (chars (drop at text) ≡ front ++ rest) × SpellsLocal front found.0.0 found.0.1 × (first_is is_word_character rest ≡ false)
    × (found.1 ≡ length (encode_utf8_all front)))

-- what has no sheet before it: the text of an amount, a boolean word or a variable, a function word
pub data IsOtherWord : List ℕ → Type 0 where
  OfAmount : (decimal units : ℕ) → units < 10 ^ 27 → IsOtherWord (unsigned_text decimal units)
  OfWord : (word : List ℕ) → is_variable_form word ≡ true → IsOtherWord word
  OfFunction : (word : List ℕ) → has_function_shape word ≡ true → IsOtherWord word
