-- Texts of closed lists, and of colors, by their bytes and by their characters.
use Rattle.std.proofs.Common.{◌≡◌, ◌≢◌, ℕ, List, [], ◌∷◌, Bool, true, false, Some, None, IsUtf8, bytes_eq, codes, option_map, option_and_then, refl, ap, sym, ◌∙◌}
use Rattle.std.specs.List.{AllByRecursion}
use Rattle.std.specs.Str.{chars}
use Rattle.std.proofs.lemmas.Slice.Eq.{bytes_eq-Decides}
use Rattle.ic_laws.specs.Lines.{unescaped}
use Rattle.ic_cells.specs.Sheet.{state_word}
use Rattle.ic_cells.specs.declared.style.Color.{Color}
use Rattle.ic_cells.specs.declared.style.Color.TheVariants as colors
use Rattle.ic_machine.specs.Word.{OfColor, all_states, bool_said, color_said, flag_said, said, state_said, word_in}
use Rattle.ic_words.specs.Words.{word_said}
use Rattle.ic_words.proofs.AsciiLemmas.{found_same, has_ascii_names, not_found}
use Rattle.ic_words.proofs.ScopeLemmas.{other_characters}

-- the words of a closed list ----

module _ {A : Type 0} (words : List (List ℕ × A)) (ascii : has_ascii_names (λ (w : List ℕ × A). w.0) words ≡ true) (bytes : List ℕ) (u : IsUtf8 bytes) where
  choice_same : word_in words (chars bytes) ≡ word_in words bytes
  choice_same = ap (option_map (λ (w : List ℕ × A). w.1)) (found_same (λ (w : List ℕ × A). w.0) words bytes u ascii)

  choice_text : (word : List ℕ) → bytes ≡ word → word_in words word ≡ word_in words (chars bytes)
  choice_text word is = sym (choice_same ∙ ap (word_in words) is)

  no_choice : AllByRecursion (λ (w : List ℕ × A). bytes ≢ w.0) words → None ≡ word_in words (chars bytes)
  no_choice others = sym (choice_same ∙ ap (option_map (λ (w : List ℕ × A). w.1)) (not_found (λ (w : List ℕ × A). w.0) words bytes others))

-- true or false ----

abbrev bool_words : List (List ℕ × Bool)
bool_words = (codes "true", true) ∷ (codes "false", false) ∷ []

pub bool_text : (bytes word : List ℕ) → IsUtf8 bytes → bytes ≡ word → bool_said word ≡ bool_said (chars bytes)
bool_text bytes word u is = choice_text bool_words refl bytes u word is

pub no_bool : (bytes : List ℕ) → IsUtf8 bytes → bytes ≢ codes "true" → bytes ≢ codes "false" → None ≡ bool_said (chars bytes)
no_bool bytes u isnt_true isnt_false = no_choice bool_words refl bytes u (isnt_true, (isnt_false, tt))

-- flags ----

abbrev flag_words : List (List ℕ × Bool)
flag_words = (codes "1", true) ∷ (codes "0", false) ∷ []

pub flag_text : (bytes word : List ℕ) → IsUtf8 bytes → bytes ≡ word → flag_said word ≡ flag_said (chars bytes)
flag_text bytes word u is = choice_text flag_words refl bytes u word is

pub no_flag : (bytes : List ℕ) → IsUtf8 bytes → bytes ≢ codes "1" → bytes ≢ codes "0" → None ≡ flag_said (chars bytes)
no_flag bytes u set unset = no_choice flag_words refl bytes u (set, (unset, tt))

-- the states of a sheet ----

state_same : (bytes : List ℕ) → IsUtf8 bytes → state_said (chars bytes) ≡ state_said bytes
state_same bytes u = found_same state_word all_states bytes u refl

pub state_text : (bytes word : List ℕ) → IsUtf8 bytes → bytes ≡ word → state_said word ≡ state_said (chars bytes)
state_text bytes word u is = sym (state_same bytes u ∙ ap state_said is)

pub no_state : (bytes : List ℕ) → IsUtf8 bytes → bytes ≢ codes "visible" → bytes ≢ codes "hidden" → bytes ≢ codes "veryHidden" → None ≡ state_said (chars bytes)
no_state bytes u visible hidden very_hidden = sym (state_same bytes u ∙ not_found state_word all_states bytes (visible, (hidden, (very_hidden, tt))))

-- colors ----

pub minus_itself : chars (codes "-") ≡ codes "-"
unfolding chars
minus_itself = refl

-- a minus alone is no color, and any other text is one
pub no_color : (bytes : List ℕ) → bytes_eq bytes (codes "-") ≡ true → colors.None ≡ color_said (chars bytes)
no_color bytes h = ap color_said (sym (ap chars ((bytes_eq-Decides bytes (codes "-")).0 h) ∙ minus_itself))

pub one_color : (bytes : List ℕ) → IsUtf8 bytes → bytes_eq bytes (codes "-") ≡ false → colors.Rgb (chars bytes) ≡ color_said (chars bytes)
one_color bytes u h = rw (other_characters bytes u h) refl

-- what a word says by the text that it spells
pub color_word : (word text : List ℕ) (color : Color) → unescaped word ≡ Some text → color ≡ color_said text → Some color ≡ word_said OfColor word
color_word word text color spelled is = ap Some is ∙ sym (ap (option_and_then (said [] OfColor)) spelled)
