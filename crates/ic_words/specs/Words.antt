-- The words that are still to be read of a line, and the texts that words spell.
use Rattle.std.specs.Prelude.{◌≡◌, ◌||◌, ℕ, List, [], ◌∷◌, Bool, true, ◌==◌, Option, Some, None, bytes_eq, chars, codes, option_and_then}
use Rattle.std.specs.List.{list_any}
use Rattle.std.specs.Option.{is_some}
use Rattle.std.specs.Borrow.{Bor}
use Rattle.ic_laws.specs.Character.{backslash}
use Rattle.ic_laws.specs.Lines.{unescaped, words_of}
use Rattle.ic_cells.specs.declared.style.Color.{Color}
use Rattle.ic_cells.specs.declared.style.Color.TheVariants as colors
use Rattle.ic_cells.specs.declared.value.SpillValue.{SpillValue}
use Rattle.ic_machine.specs.Word as machine
use Rattle.ic_machine.specs.Word.{AllSaid, Said, WordForm, Words}

-- the words of what is left of a line; where nothing is left after the last tab there is none
abbrev pub words_left : Option (Bor (List ℕ)) → List (List ℕ)
words_left None = []
words_left (Some rest) = words_of (chars rest.now)

-- a word has a backslash, which begins each escape
abbrev pub has_escape : List ℕ → Bool
has_escape word = list_any (λ c. c == backslash) word

abbrev pub HasEscape : List ℕ → Type 0
HasEscape word = has_escape word ≡ true

-- a word of these has an escape
abbrev pub HaveEscape : List (List ℕ) → Type 0
HaveEscape words = list_any has_escape words ≡ true

-- the text of a word: its copy, or the word itself
abbrev pub spelled_in : List ℕ → Option (List ℕ) → List ℕ
spelled_in word None = word
spelled_in word (Some copy) = copy

-- it is what the word spells, and copied exactly where the word has an escape
pub record SpellsIn (word : List ℕ) (copy : Option (List ℕ)) : Type 0 where
  pub spelled : unescaped word ≡ Some (spelled_in word copy)
  pub copied : is_some copy ≡ has_escape word

-- what a word of this form says, by the text that it spells; by the English words of no error values, since none of the
-- forms that are read one by one needs them
abbrev pub word_said : (form : WordForm) → List ℕ → Option (Said form)
word_said form word = option_and_then (machine.said [] form) (unescaped word)

-- and what words of these forms say
abbrev pub words_said : (forms : Words) → List (List ℕ) → Option (AllSaid forms)
words_said forms words = machine.words_said [] forms words

-- what a word says as the value of a cell of a spill, by the English words of the error values
abbrev pub spill_word : List (List ℕ) → List ℕ → Option SpillValue
spill_word english word = option_and_then (machine.spill_said english) (unescaped word)

-- A command of this name has values for words, whose texts are copied.
abbrev pub copies_values : List ℕ → Bool
copies_values name = bytes_eq (codes "put_formula_value") name || bytes_eq (codes "put_spill") name

-- the first of these words is such a name
abbrev pub CopyValues : List (List ℕ) → Type 0
CopyValues [] = ⊥
CopyValues (name ∷ words) = copies_values name ≡ true

-- the color that a text is; without one it is none
abbrev pub color_meant : Option (List ℕ) → Color
color_meant None = colors.None
color_meant (Some text) = colors.Rgb text
