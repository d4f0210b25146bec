-- The words of a text, one after another.
use Rattle.std.proofs.Common.{◌≡◌, ℕ, List, [], ◌∷◌, ◌==◌, refl, ap}
use Rattle.std.proofs.lemmas.Bool.{cases_Bool}
use Rattle.std.specs.List.{onto_first}
use Rattle.std.proofs.Common.{inl, inr}
use Rattle.ic_laws.specs.Character.{blank}
use Rattle.ic_laws.specs.Scan.{past_run, run_of}
use Rattle.ic_tables.specs.WordList.{is_inside, words_in}

-- the words after a first one: none at the end of the text, and those after the blank
unfoldable pub later_words : List ℕ → List (List ℕ)
later_words [] = []
later_words (c ∷ cs) = words_in cs

pub no_later_words : later_words [] ≡ []
unfolding later_words
no_later_words = refl

pub first_and_later : (text : List ℕ) → words_in text ≡ run_of is_inside text ∷ later_words (past_run is_inside text)
unfolding words_in later_words
first_and_later [] = refl
first_and_later (c ∷ cs) =
    elim (cases_Bool (c == blank)) [ inl e ↦ rw e refl | inr e ↦ rw e (ap (onto_first c) (first_and_later cs)) ]

-- the words after a blank
pub later_are : (text : List ℕ) (c : ℕ) (cs : List ℕ) → text ≡ c ∷ cs → later_words text ≡ run_of is_inside cs ∷ later_words (past_run is_inside cs)
unfolding later_words
later_are text c cs e = rw e (first_and_later cs)
