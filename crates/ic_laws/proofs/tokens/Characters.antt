-- What kind of character each ASCII character is: which begin a word, and which go on with one.
use Rattle.std.proofs.Common.{◌≡◌, ℕ, zero, suc, ◌+◌, ◌-◌, ◌<◌, ◌≤◌, List, [], ◌∷◌, ◌++◌, Bool, true, false, not, ◌&&◌, refl, ◌∙◌, ap, subst, inl, inr, arith}
use Rattle.std.specs.List.{list_all}
use Rattle.std.proofs.lemmas.Bool.{and_parts, and_from, cases_Bool, leb-true}
use Rattle.std.proofs.lemmas.Bool.Decides.{eqb_tells}
use Rattle.ucd_derived.proofs.Computing.{ucd_derived}
use Rattle.ic_laws.specs.Scan.{begins_word, first_is, is_blank, is_digit, is_word_character, run_of, past_run}

-- a test holds of each number below this
abbrev pub all_below : (ℕ → Bool) → ℕ → Bool
all_below p zero = true
all_below p (suc n) = p n && all_below p n

pub at_below : (p : ℕ → Bool) (n k : ℕ) → all_below p n ≡ true → k < n → p k ≡ true
at_below p zero k h lt = absurd (omega arith)
at_below p (suc n) k h lt =
    let parts = and_parts (p n) (all_below p n) h in
    elim (eqb_tells k n) [ inl e ↦ ap p e.1 ∙ parts.0 | inr e ↦ at_below p n k parts.1 (omega (arith, e.1)) ]

pub not_true : (b : Bool) → not b ≡ true → b ≡ false
not_true true h = absurd (cc)
not_true false h = refl

-- the digits begin no word
digits_begin_none : all_below (λ k. not (begins_word (k + 48))) 10 ≡ true
unfolding ucd_derived
digits_begin_none = refl

pub digit_begins_none : (c : ℕ) → is_digit c ≡ true → begins_word c ≡ false
digit_begins_none c h =
    let parts = and_parts _ _ h in
    let low : 48 ≤ c = leb-true 48 c parts.0 in
    let high : c ≤ 57 = leb-true c 57 parts.1 in
    let is : c - 48 + 48 ≡ c = omega arith in
    not_true (begins_word c) (subst (λ x. not (begins_word x) ≡ true) is (at_below (λ k. not (begins_word (k + 48))) 10 (c - 48) digits_begin_none (omega arith)))

-- what begins a word goes on with one
pub begins_goes_on : (c : ℕ) → begins_word c ≡ true → is_word_character c ≡ true
begins_goes_on c h = grind arith

-- no blank and no bracket goes on with a word
pub bracket_no_word : is_word_character 40 ≡ false
unfolding ucd_derived
bracket_no_word = refl

blanks_no_words : (is_word_character 32 ≡ false) × (is_word_character 9 ≡ false) × (is_word_character 10 ≡ false) × (is_word_character 13 ≡ false)
unfolding ucd_derived
blanks_no_words = (refl, refl, refl, refl)

pub blank_no_word : (c : ℕ) → is_blank c ≡ true → is_word_character c ≡ false
blank_no_word c h =
    elim (eqb_tells c 32) [
      | inl e ↦ ap is_word_character e.1 ∙ blanks_no_words.0
      | inr e ↦ elim (eqb_tells c 9) [
        | inl f ↦ ap is_word_character f.1 ∙ blanks_no_words.1
        | inr f ↦ elim (eqb_tells c 10) [
          | inl g ↦ ap is_word_character g.1 ∙ blanks_no_words.2
          | inr g ↦ elim (eqb_tells c 13) [
            | inl k ↦ ap is_word_character k.1 ∙ blanks_no_words.3
            | inr k ↦ let no : false ≡ true = rw (e.0, f.0, g.0, k.0) at h in absurd (cc)
          ]
        ]
      ]
    ]

-- runs
pub run_of_all : (p : ℕ → Bool) (text rest : List ℕ) → list_all p text ≡ true → first_is p rest ≡ false → run_of p (text ++ rest) ≡ text
run_of_all p [] [] h k = refl
run_of_all p [] (d ∷ ds) h k = rw k refl
run_of_all p (c ∷ cs) rest h k = let e = and_parts (p c) (list_all p cs) h in rw (e.0) (ap (λ t. c ∷ t) (run_of_all p cs rest e.1 k))

pub past_run_all : (p : ℕ → Bool) (text rest : List ℕ) → list_all p text ≡ true → first_is p rest ≡ false → past_run p (text ++ rest) ≡ rest
past_run_all p [] [] h k = refl
past_run_all p [] (d ∷ ds) h k = rw k refl
past_run_all p (c ∷ cs) rest h k = let e = and_parts (p c) (list_all p cs) h in rw (e.0) (past_run_all p cs rest e.1 k)

pub all_of_run : (p : ℕ → Bool) (text : List ℕ) → list_all p (run_of p text) ≡ true
all_of_run p [] = refl
all_of_run p (c ∷ cs) = elim (cases_Bool (p c)) [ inl e ↦ rw e (and_from (p c) (list_all p (run_of p cs)) e (all_of_run p cs)) | inr e ↦ rw e refl ]

pub not_all_past : (p : ℕ → Bool) (front rest : List ℕ) (c : ℕ) → p c ≡ false → list_all p (front ++ c ∷ rest) ≡ false
not_all_past p [] rest c h = rw h refl
not_all_past p (d ∷ ds) rest c h = elim (cases_Bool (p d)) [ inl e ↦ rw e (not_all_past p ds rest c h) | inr e ↦ rw e refl ]
