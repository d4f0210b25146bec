-- What a run of word characters before an end can have in common with a reference.
use Rattle.std.proofs.Common.{◌≡◌, ◌≢◌, ℕ, ◌<◌, ◌≤◌, List, [], ◌∷◌, ◌++◌, Bool, true, false, ◌||◌, ◌⊎◌, length, length-append, refl, sym, subst, ◌∙◌, ap, inl, inr, arith, eqb}
use Rattle.std.specs.List.{list_all}
use Rattle.std.proofs.lemmas.Bool.{and_parts, or_left, cases_Bool, both_ways}
use Rattle.ic_laws.specs.Scan.{IsEnd, first_is, is_word_character, joins, past_run}

-- what stands after a run of word characters is nothing, or goes on with a word or a reference
abbrev pub Stops : List ℕ → Type 0
Stops xs = (xs ≡ []) ⊎ (first_is joins xs ≡ true)

word_joins : (c : ℕ) → is_word_character c ≡ true → joins c ≡ true
word_joins c h =
    or_left (is_word_character c || eqb c 33 || eqb c 58 || eqb c 36) (eqb c 91)
    (or_left (is_word_character c || eqb c 33 || eqb c 58) (eqb c 36) (or_left (is_word_character c || eqb c 33) (eqb c 58) (or_left (is_word_character c) (eqb c 33) h)))

no_word_at_end : (c : ℕ) → joins c ≡ false → is_word_character c ≡ false
no_word_at_end c h = elim (cases_Bool (is_word_character c)) [ inl t ↦ absurd (both_ways (joins c) h (word_joins c t)) | inr f ↦ f ]

pub past_one : (p : ℕ → Bool) (c : ℕ) (cs : List ℕ) → p c ≡ true → past_run p (c ∷ cs) ≡ past_run p cs
past_one p c cs h = rw h refl

pub past_none : (p : ℕ → Bool) (c : ℕ) (cs : List ℕ) → p c ≡ false → past_run p (c ∷ cs) ≡ c ∷ cs
past_none p c cs h = rw h refl

-- Of two fronts of a text one of which is a run of word characters before an end, the other isn't longer where its own
-- run stops with what goes on.
pub no_longer : (word front rest after : List ℕ) → list_all is_word_character word ≡ true → IsEnd rest → word ++ rest ≡ front ++ after → Stops (past_run is_word_character front) → length front ≤ length word
no_longer word [] rest after w e h s = omega arith
no_longer [] (c ∷ f) rest after w e h s =
    let q : joins c ≡ false = subst IsEnd h e in
    let k : past_run is_word_character (c ∷ f) ≡ c ∷ f = past_none is_word_character c f (no_word_at_end c q) in
    elim (subst Stops k s) [
      | inl n ↦ absurd (cc)
      | inr j ↦ absurd (both_ways (joins c) q j)
    ]
no_longer (x ∷ word) (c ∷ f) rest after w e h s =
    let p = and_parts (is_word_character x) (list_all is_word_character word) w in
    let same : x ≡ c = cc in
    let more : word ++ rest ≡ f ++ after = cc in
    let is_word : is_word_character c ≡ true = subst (λ z. is_word_character z ≡ true) same p.0 in
    omega (arith, no_longer word f rest after p.1 e more (subst Stops (past_one is_word_character c f is_word) s))

-- so what stands after the other is no shorter
pub no_less_after : (word front rest after : List ℕ) → word ++ rest ≡ front ++ after → length front ≤ length word → length rest ≤ length after
no_less_after word front rest after h le = omega (arith, ap length h, length-append word rest, length-append front after)

pub same_front : (word front rest after : List ℕ) → word ++ rest ≡ front ++ after → length front ≡ length word → front ≡ word
same_front [] [] rest after h e = refl
same_front [] (c ∷ f) rest after h e = absurd (omega arith)
same_front (x ∷ w) [] rest after h e = absurd (omega arith)
same_front (x ∷ w) (c ∷ f) rest after h e =
    let same : x ≡ c = cc in
    let more : w ++ rest ≡ f ++ after = cc in
    ap (λ z. z ∷ f) (sym same) ∙ ap (λ t. x ∷ t) (same_front w f rest after more (omega arith))

-- and more stands after it where the run of word characters is not that text
pub more_after : (word front rest after : List ℕ) → word ++ rest ≡ front ++ after → length front ≤ length word → (front ≡ word → ⊥) → length rest < length after
more_after word front rest after h le apart =
    let differ : length front ≢ length word = λ e. apart (same_front word front rest after h e) in
    omega (arith, ap length h, length-append word rest, length-append front after)

-- A run of word characters reaches no further than another front of its text that stands before an end, where it isn't
-- that text.
pub falls_short : (word front after rest : List ℕ) → list_all is_word_character word ≡ true → IsEnd rest → word ++ after ≡ front ++ rest → (front ≡ word → ⊥) → length rest < length after
falls_short [] [] after rest w e h apart = absurd (apart refl)
falls_short [] (c ∷ f) after rest w e h apart = omega (arith, ap length h, length-append (c ∷ f) rest)
falls_short (x ∷ word) [] after rest w e h apart =
    let p = and_parts (is_word_character x) (list_all is_word_character word) w in
    let q : joins x ≡ false = subst IsEnd (sym h) e in
    absurd (both_ways (is_word_character x) (no_word_at_end x q) p.0)
falls_short (x ∷ word) (c ∷ f) after rest w e h apart =
    let p = and_parts (is_word_character x) (list_all is_word_character word) w in
    let same : x ≡ c = cc in
    let more : word ++ after ≡ f ++ rest = cc in
    falls_short word f after rest p.1 e more (λ s. apart (ap (λ z. z ∷ f) (sym same) ∙ ap (λ t. x ∷ t) s))
