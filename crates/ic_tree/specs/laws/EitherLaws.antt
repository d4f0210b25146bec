-- The laws of words where English ones are found beside those of a language.
use Rattle.std.proofs.Common.{◌≡◌, ℕ, List, [], ◌++◌, true, Option, Some, None, ap, ap₂, ◌⊎◌, inl, inr}
use Rattle.std.specs.List.{slice_get}
use Rattle.ic_laws.specs.Dialect.{has_error_shape}
use Rattle.ic_laws.specs.Name.{Agree}
use Rattle.ic_laws.specs.declared.dialect.WordKind.{WordKind}
use Rattle.ic_laws.specs.declared.dialect.WordKind.TheVariants as kinds
use Rattle.ic_refs.specs.Sheet.{or_else}
use Rattle.ic_tables.specs.Words.{error_words, first_agreeing, words_of}
use Rattle.ic_tables.specs.declared.language.Language.{Language}
use Rattle.ic_tables.proofs.WordLemmas.{AgreesWithOne, agrees_after, agrees_front}
use Rattle.ic_tree.specs.Shown.{SpeaksBeside, found_in}
use Rattle.ic_tree.specs.Stored.{SpeaksWell}
use Rattle.ic_tree.specs.laws.LanguageLaws.{error_shape_of, errors_apart_of, law_finds_agreeing, law_finds_word}

pub or_else_cases : (a b : Option ℕ) (n : ℕ) → or_else a b ≡ Some n → (a ≡ Some n) ⊎ (b ≡ Some n)
or_else_cases None b n e = inr e
or_else_cases (Some m) b n e = inl e

pub law_finds_word_either : (l english : Language) → SpeaksWell l → (kind : WordKind) (n : ℕ) (word : List ℕ) → slice_get (words_of l kind) n ≡ Some word → found_in l english kind word ≡ Some n
law_finds_word_either l english w kind n word e = ap (λ o. or_else o (first_agreeing (words_of english kind) word)) (law_finds_word l w kind n word e)

pub law_finds_agreeing_either : (l english : Language) (kind : WordKind) (a b : List ℕ) → Agree a b → found_in l english kind a ≡ found_in l english kind b
law_finds_agreeing_either l english kind a b h = ap₂ or_else (law_finds_agreeing l kind a b h) (law_finds_agreeing english kind a b h)

pub law_error_shape_either : (l english : Language) → SpeaksBeside l english → (text : List ℕ) (n : ℕ) → found_in l english kinds.Error text ≡ Some n → has_error_shape text ≡ true
law_error_shape_either l english w text n e =
    elim (or_else_cases (first_agreeing (error_words l) text) (first_agreeing (error_words english) text) n e) [
      | inl a ↦ error_shape_of l w.words.errors text n a
      | inr b ↦ error_shape_of english w.english_errors text n b
    ]

agrees_either : (l english : Language) (text : List ℕ) (n : ℕ) → found_in l english kinds.Error text ≡ Some n → AgreesWithOne (error_words english ++ error_words l) text
agrees_either l english text n e =
    elim (or_else_cases (first_agreeing (error_words l) text) (first_agreeing (error_words english) text) n e) [
      | inl a ↦ agrees_after (error_words english) (error_words l) text n a
      | inr b ↦ agrees_front (error_words english) (error_words l) text n b
    ]

pub law_errors_apart_either : (l english : Language) → SpeaksBeside l english → (text more : List ℕ) (m n : ℕ) → found_in l english kinds.Error text ≡ Some m → found_in l english kinds.Error (text ++ more) ≡ Some n → more ≡ []
law_errors_apart_either l english w text more m n e h = errors_apart_of l (error_words english) w.told text more (agrees_either l english text m e) (agrees_either l english (text ++ more) n h)
