-- Lists of nine and of twelve by their places, and words that are not as many.
use Rattle.std.proofs.Common.{◌≡◌, ℕ, suc, ◌<◌, List, [], ◌∷◌, Some, None, length, get_or, drop, refl, sym, ap, ◌∙◌, arith, length-drop}
use Rattle.std.proofs.Math.Seq.{drop-cons}
use Rattle.std.proofs.lemmas.List.{nil_from_length}
use Rattle.ic_tables.specs.declared.language.Booleans.{Booleans}
use Rattle.ic_tables.specs.declared.language.Errors.{Errors}
use Rattle.ic_tables.specs.declared.locale_words.SharedSigns.{SharedSigns}
use Rattle.ic_tables.specs.LanguageWords.{booleans_of, errors_of}
use Rattle.ic_tables.specs.LocaleWords.{list_of_signs, shared_signs, sign}
use Rattle.ic_tables.specs.WordList.{words_in}
use Rattle.ic_tables.specs.Words.{words_of_booleans, words_of_errors}
use Rattle.ic_tables.specs.declared.locale_words.TheConstants.{SIGNS}
use Rattle.std.specs.Str.{chars}

-- the list from a place on, by what stands there and the rest
from_place : {A : Type 0} (xs : List A) (k : ℕ) (x : A) (rest : List A) → k < length xs → get_or xs k x ≡ x → drop (suc k) xs ≡ rest → drop k xs ≡ x ∷ rest
from_place xs k x rest l h e = drop-cons xs k x l ∙ ap (λ y. y ∷ drop (suc k) xs) h ∙ ap (λ r. x ∷ r) e

past_end : {A : Type 0} (xs : List A) (n : ℕ) → length xs ≡ n → drop n xs ≡ []
past_end xs n h = nil_from_length (drop n xs) (omega (arith, length-drop n xs))

pub of_nine : {A : Type 0} (a b c d e f g h i : A) (xs : List A) → length xs ≡ 9
    → get_or xs 0 a ≡ a → get_or xs 1 b ≡ b → get_or xs 2 c ≡ c → get_or xs 3 d ≡ d → get_or xs 4 e ≡ e → get_or xs 5 f ≡ f → get_or xs 6 g ≡ g → get_or xs 7 h ≡ h → get_or xs 8 i ≡ i
    → a ∷ b ∷ c ∷ d ∷ e ∷ f ∷ g ∷ h ∷ i ∷ [] ≡ xs
of_nine a b c d e f g h i xs long pa pb pc pd pe pf pg ph pi =
    sym (from_place xs 0 a _ (omega arith) pa (from_place xs 1 b _ (omega arith) pb (from_place xs 2 c _ (omega arith) pc (from_place xs 3 d _ (omega arith) pd (from_place xs 4 e _ (omega arith) pe (from_place xs 5 f _ (omega arith) pf (from_place xs 6 g _ (omega arith) pg (from_place xs 7 h _ (omega arith) ph (from_place xs 8 i _ (omega arith) pi (past_end xs 9 long))))))))))

pub of_twelve : {A : Type 0} (a b c d e f g h i j k l : A) (xs : List A) → length xs ≡ 12
    → get_or xs 0 a ≡ a → get_or xs 1 b ≡ b → get_or xs 2 c ≡ c → get_or xs 3 d ≡ d → get_or xs 4 e ≡ e → get_or xs 5 f ≡ f → get_or xs 6 g ≡ g → get_or xs 7 h ≡ h → get_or xs 8 i ≡ i → get_or xs 9 j ≡ j → get_or xs 10 k ≡ k → get_or xs 11 l ≡ l
    → a ∷ b ∷ c ∷ d ∷ e ∷ f ∷ g ∷ h ∷ i ∷ j ∷ k ∷ l ∷ [] ≡ xs
of_twelve a b c d e f g h i j k l xs long pa pb pc pd pe pf pg ph pi pj pk pl =
    sym (from_place xs 0 a _ (omega arith) pa (from_place xs 1 b _ (omega arith) pb (from_place xs 2 c _ (omega arith) pc (from_place xs 3 d _ (omega arith) pd (from_place xs 4 e _ (omega arith) pe (from_place xs 5 f _ (omega arith) pf (from_place xs 6 g _ (omega arith) pg (from_place xs 7 h _ (omega arith) ph (from_place xs 8 i _ (omega arith) pi (from_place xs 9 j _ (omega arith) pj (from_place xs 10 k _ (omega arith) pk (from_place xs 11 l _ (omega arith) pl (past_end xs 12 long)))))))))))))

-- what is not two or twelve words is nothing
pub other_than_two : (xs : List (List ℕ)) → (length xs ≡ 2 → ⊥) → booleans_of xs ≡ None
other_than_two [] other = refl
other_than_two (a ∷ []) other = refl
other_than_two (a ∷ b ∷ []) other = absurd (other refl)
other_than_two (a ∷ b ∷ y ∷ ys) other = refl

pub other_than_twelve : (xs : List (List ℕ)) → (length xs ≡ 12 → ⊥) → errors_of xs ≡ None
other_than_twelve [] other = refl
other_than_twelve (a ∷ []) other = refl
other_than_twelve (a ∷ b ∷ []) other = refl
other_than_twelve (a ∷ b ∷ c ∷ []) other = refl
other_than_twelve (a ∷ b ∷ c ∷ d ∷ []) other = refl
other_than_twelve (a ∷ b ∷ c ∷ d ∷ e ∷ []) other = refl
other_than_twelve (a ∷ b ∷ c ∷ d ∷ e ∷ f ∷ []) other = refl
other_than_twelve (a ∷ b ∷ c ∷ d ∷ e ∷ f ∷ g ∷ []) other = refl
other_than_twelve (a ∷ b ∷ c ∷ d ∷ e ∷ f ∷ g ∷ h ∷ []) other = refl
other_than_twelve (a ∷ b ∷ c ∷ d ∷ e ∷ f ∷ g ∷ h ∷ i ∷ []) other = refl
other_than_twelve (a ∷ b ∷ c ∷ d ∷ e ∷ f ∷ g ∷ h ∷ i ∷ j ∷ []) other = refl
other_than_twelve (a ∷ b ∷ c ∷ d ∷ e ∷ f ∷ g ∷ h ∷ i ∷ j ∷ k ∷ []) other = refl
other_than_twelve (a ∷ b ∷ c ∷ d ∷ e ∷ f ∷ g ∷ h ∷ i ∷ j ∷ k ∷ l ∷ []) other = absurd (other refl)
other_than_twelve (a ∷ b ∷ c ∷ d ∷ e ∷ f ∷ g ∷ h ∷ i ∷ j ∷ k ∷ l ∷ y ∷ ys) other = refl

-- words that are as many
pub booleans_are : (b : Booleans) (xs : List (List ℕ)) → words_of_booleans b ≡ xs → booleans_of xs ≡ Some b
booleans_are b xs e = rw (← e) refl

pub errors_are : (e : Errors) (xs : List (List ℕ)) → words_of_errors e ≡ xs → errors_of xs ≡ Some e
errors_are e xs h = rw (← h) refl

-- the nine signs
pub nine_signs : length (words_in (chars SIGNS.now)) ≡ 9
unfolding words_in chars
nine_signs = refl

pub signs_are : (s : SharedSigns) → list_of_signs s ≡ words_in (chars SIGNS.now) → s ≡ shared_signs
unfolding sign shared_signs
signs_are s e = rw (← e) refl
