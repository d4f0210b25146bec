-- What stands after the letter of a row or a column in the R1C1 form: what is read is spelled so, and what is spelled
-- is read.
use Rattle.std.proofs.Common.{◌≡◌, ◌≢◌, ◌≤◌, ◌<◌, ℕ, ℤ, pos, negsuc, neg_ℤ, nat_abs, ◌+◌, ◌-◌, ◌*◌, ◌%◌, ◌+ℤ◌, ◌-ℤ◌, List, [], ◌∷◌, ◌++◌, Bool, true, false, Result, Ok, Err, refl, sym, subst, ◌∙◌, ap, inl, inr, arith, append_assoc, leb, ltb, eqb, cond}
use Rattle.std.specs.List.{list_all}
use Rattle.std.specs.Str.{all_ascii_digits}
use Rattle.std.specs.Str.Parse.{digits_value}
use Rattle.std.proofs.Math.Nat.{add-mod_right, mod-eq_of_lt}
use Rattle.std.proofs.lemmas.Int.{ints, int_rem_euclid_is}
use Rattle.std.proofs.lemmas.Bool.Decides.{leb_tells}
use Rattle.std.proofs.lemmas.Bool.{and_parts, cases_Bool, cond-true, eqb-true, leb-true, le-leb, lt-ltb, ltb-true, true≢false}
use Rattle.ic_laws.specs.Scan.{is_digit, first_is, run_of, past_run}
use Rattle.ic_laws.proofs.RunLemmas.{run_and_rest}
use Rattle.ic_refs.specs.declared.error.ReferenceError.{ReferenceError}
use Rattle.ic_refs.specs.declared.error.ReferenceError.TheVariants as errors
use Rattle.ic_refs.specs.Formula.{◌>>=◌}
use Rattle.ic_refs.specs.R1C1.{number_at, wrapped, absolute, offset, past_bracket, offset_on_at, offset_back_at, offset_at, absolute_at, part_at}
use Rattle.ic_refs.specs.R1C1Form.{IsNumberOf, LiesAway, SpellsOffset, SpellsPart}
use Rattle.ic_refs.specs.Stored.{SpellsNumber, SpellsDistance}
use Rattle.ic_refs.proofs.DigitsDecimalLemmas.{all_digits}
use Rattle.ic_refs.proofs.R1C1NumberLemmas.{number_some}
use Rattle.ic_laws.proofs.tokens.Characters.{run_of_all, past_run_all}
use Rattle.ic_refs.proofs.StoredLemmas.{nat_abs_neg}
use Rattle.ic_refs.proofs.StoredReachLemmas.{digits_begin, other_than_digit}
use Rattle.ic_laws.proofs.AmountReading.{run_of-is_digits as run_digits}

-- a bracket that opens an offset
abbrev pub is_open : ℕ → Bool
is_open c = eqb c 91

-- the steps of a reader that may fail
pub bound : {A B : Type 0} (r : Result A ReferenceError) (f : A → Result B ReferenceError) (y : B) → (r >>= f) ≡ Ok y → (x : A) × (r ≡ Ok x) × (f x ≡ Ok y)
bound (Ok x) f y e = (x, refl, e)
bound (Err e) f y h = absurd (cc)

pub bind : {A B : Type 0} (r : Result A ReferenceError) (f : A → Result B ReferenceError) (x : A) → r ≡ Ok x → (r >>= f) ≡ f x
bind r f x e = ap (λ r. r >>= f) e

-- Numbers

run_begins : (c : ℕ) (cs : List ℕ) → is_digit c ≡ true → run_of is_digit (c ∷ cs) ≢ []
run_begins c cs t = λ e. let k : c ∷ run_of is_digit cs ≡ [] = rw t at e in cc

number_sound : (most n : ℕ) (text : List ℕ) → number_at most text ≡ Ok n → SpellsNumber (run_of is_digit text) n
number_sound most n [] e = absurd (cc)
number_sound most n (c ∷ cs) e =
    elim (cases_Bool (is_digit c)) [
      | inr f ↦ let k = rw f at e in absurd (cc)
      | inl t ↦
          let value = digits_value 10 (run_of is_digit (c ∷ cs)) in
          let k : cond (leb value most) (Ok value) (Err errors.ExpectedNumber) ≡ Ok n = sym (cond-true (is_digit c) (cond (leb value most) (Ok value) (Err errors.ExpectedNumber)) (Err errors.ExpectedNumber) t) ∙ e in
          elim (cases_Bool (leb value most)) [
            | inr f ↦ let none = rw f at k in absurd (cc)
            | inl u ↦ let same : Ok value ≡ Ok n = rw u at k in (run_digits (c ∷ cs), run_begins c cs t, (let v : value ≡ n = cc in v))
          ]
    ]

number_complete : (most n : ℕ) (digits rest : List ℕ) → SpellsNumber digits n → n ≤ most → first_is is_digit rest ≡ false → (number_at most (digits ++ rest) ≡ Ok n) × (past_run is_digit (digits ++ rest) ≡ rest)
number_complete most n [] rest s h f = absurd (s.1 refl)
number_complete most n (d ∷ ds) rest s h f =
    let all : list_all is_digit (d ∷ ds) ≡ true = sym (all_digits (d ∷ ds)) ∙ s.0 in
    let run : run_of is_digit (d ∷ (ds ++ rest)) ≡ d ∷ ds = run_of_all is_digit (d ∷ ds) rest all f in
    let value : digits_value 10 (run_of is_digit (d ∷ (ds ++ rest))) ≡ n = ap (digits_value 10) run ∙ s.2 in (
      number_some most d (ds ++ rest) (and_parts (is_digit d) (all_ascii_digits ds) s.0).0
          ∙ ap (λ v. cond (leb v most) (Ok v) (Err errors.ExpectedNumber)) value ∙ cond-true (leb n most) (Ok n) (Err errors.ExpectedNumber) (le-leb n most h),
      past_run_all is_digit (d ∷ ds) rest all f,
    )

absolute_sound : (length n : ℕ) (place : ℤ) → absolute length n ≡ Ok place → IsNumberOf length place × (place ≡ pos n)
absolute_sound length n place e =
    elim (cases_Bool (ltb 0 n)) [
      | inr f ↦ let k = rw f at e in absurd (cc)
      | inl t ↦ elim (cases_Bool (leb n length)) [
        | inr f ↦ let k = rw (t, f) at e in absurd (cc)
        | inl l ↦ let k : Ok (pos n) ≡ Ok place = rw (t, l) at e in
            let same : place ≡ pos n = cc in
            let low = ltb-true 0 n t in
            let high = leb-true n length l in
            ((omega (arith, ints, same, low), omega (arith, ints, same, high)), same)
      ]
    ]

absolute_complete : (length n : ℕ) → 1 ≤ n → n ≤ length → absolute length n ≡ Ok (pos n)
absolute_complete length n l h = rw (lt-ltb 0 n (omega arith), le-leb n length h) refl

-- Offsets round the end of the sheet

away_is : (n : ℕ) (origin k p : ℤ) → LiesAway n origin k p → wrapped n origin k ≡ p
away_is n origin k (negsuc j) a = absurd (omega (arith, ints, a.number.0))
away_is n origin k (pos j) a =
    let low : 1 ≤ j = omega (arith, ints, a.number.0) in
    let high : j ≤ n = omega (arith, ints, a.number.1) in
    let some : 0 < n = omega arith in
    let small : (j - 1) % n ≡ j - 1 = mod-eq_of_lt (omega arith) in
    let back : pos (j - 1) +ℤ pos 1 ≡ pos j = omega (arith, ints) in
    elim a.away [
      | inl e ↦
          let z : ((origin +ℤ k) -ℤ pos 1) +ℤ pos (0 * n) ≡ pos (j - 1) = omega (arith, ints, e) in
          ap (λ v. v +ℤ pos 1) (int_rem_euclid_is ((origin +ℤ k) -ℤ pos 1) (pos n) n 0 (j - 1) some refl z ∙ ap pos small) ∙ back
      | inr e ↦ elim e [
        | inl e ↦
            let z : ((origin +ℤ k) -ℤ pos 1) +ℤ pos (0 * n) ≡ pos (j - 1 + n) = omega (arith, ints, e) in
            let again : (j - 1 + n) % n ≡ j - 1 = add-mod_right (j - 1) n ∙ small in
            ap (λ v. v +ℤ pos 1) (int_rem_euclid_is ((origin +ℤ k) -ℤ pos 1) (pos n) n 0 (j - 1 + n) some refl z ∙ ap pos again) ∙ back
        | inr e ↦
            let z : ((origin +ℤ k) -ℤ pos 1) +ℤ pos (1 * n) ≡ pos (j - 1) = omega (arith, ints, e) in
            ap (λ v. v +ℤ pos 1) (int_rem_euclid_is ((origin +ℤ k) -ℤ pos 1) (pos n) n 1 (j - 1) some refl z ∙ ap pos small) ∙ back
      ]
    ]

away_at : (n : ℕ) (origin k p : ℤ) → LiesAway n origin k p → LiesAway n origin k (wrapped n origin k)
away_at n origin k p a = subst (LiesAway n origin k) (sym (away_is n origin k p a)) a

away_of : (n : ℕ) (origin k : ℤ) → IsNumberOf n origin → nat_abs k < n → LiesAway n origin k (wrapped n origin k)
away_of n (negsuc o) k i h = absurd (omega (arith, ints, i.0))
away_of n (pos o) (pos a) i h =
    elim (leb_tells (o + a) n) [
      | inl p ↦ away_at n (pos o) (pos a) (pos (o + a)) (record { number = (omega (arith, ints, i.0), omega (arith, ints, p.1)); away = inl (omega (arith, ints)) })
      | inr p ↦ away_at n (pos o) (pos a) (pos (o + a - n))
          (record { number = (omega (arith, ints, p.1), omega (arith, ints, p.1, i.1)); away = inr (inl (omega (arith, ints, p.1))) })
    ]
away_of n (pos o) (negsuc a) i h =
    elim (leb_tells (a + 2) o) [
      | inl p ↦ away_at n (pos o) (negsuc a) (pos (o - (a + 1)))
          (record { number = (omega (arith, ints, p.1), omega (arith, ints, p.1, i.1)); away = inl (omega (arith, ints, p.1)) })
      | inr p ↦ away_at n (pos o) (negsuc a) (pos (o + n - (a + 1)))
          (record { number = (omega (arith, ints, p.1, i.0), omega (arith, ints, p.1)); away = inr (inr (omega (arith, ints, p.1, i.0))) })
    ]

offset_sound : (length : ℕ) (origin k place : ℤ) (distance : ℕ) → offset length origin k distance ≡ Ok place → (distance < length) × (place ≡ wrapped length origin k)
offset_sound length origin k place distance e =
    elim (cases_Bool (ltb distance length)) [
      | inr f ↦ let none = rw f at e in absurd (cc)
      | inl t ↦ let some : Ok (wrapped length origin k) ≡ Ok place = rw t at e in (ltb-true distance length t, cc)
    ]

bracket_sound : (place : ℤ) (text : List ℕ) (found : ℤ × List ℕ) → past_bracket place text ≡ Ok found → (text ≡ 93 ∷ found.1) × (place ≡ found.0)
bracket_sound place [] found e = absurd (cc)
bracket_sound place (c ∷ cs) found e =
    elim (cases_Bool (eqb c 93)) [
      | inr f ↦ let none = rw f at e in absurd (cc)
      | inl t ↦ let some : Ok (place, cs) ≡ Ok found = rw t at e in
          let same : (place, cs) ≡ found = cc in
          (ap (λ x. x ∷ cs) (eqb-true c 93 t) ∙ ap (λ (f : ℤ × List ℕ). 93 ∷ f.1) same, ap (λ (f : ℤ × List ℕ). f.0) same)
    ]

-- What is read is spelled so

-- the text begins with what spells the place that was read
abbrev pub IsPartRead : ℕ → ℤ → List ℕ → ℤ × List ℕ → Type 0
IsPartRead length origin text found = (front : List ℕ) × (text ≡ front ++ found.1) × SpellsPart length origin front found.0

absolute_at_sound : (length : ℕ) (origin : ℤ) (text : List ℕ) (found : ℤ × List ℕ) → absolute_at length text ≡ Ok found → IsPartRead length origin text found
absolute_at_sound length origin text found e =
    let one = bound (number_at 2147483647 text) (λ n. absolute length n >>= λ place. Ok (place, past_run is_digit text)) found e in
    let two = bound (absolute length one.0) (λ place. Ok (place, past_run is_digit text)) found one.2 in
    let same : (two.0, past_run is_digit text) ≡ found = cc (two.2) in
    let place = absolute_sound length one.0 two.0 two.1 in
    subst (IsPartRead length origin text) same
    (run_of is_digit text, run_and_rest is_digit text, inr (inl (one.0, number_sound 2147483647 one.0 text one.1, place.0, place.1)))

-- an offset and its bracket, after the bracket that opens it
abbrev IsOffsetRead : ℕ → ℤ → List ℕ → ℤ × List ℕ → Type 0
IsOffsetRead length origin text found = (front : List ℕ) × (text ≡ front ++ found.1) × SpellsOffset length origin (91 ∷ front) found.0

closed : (length : ℕ) (origin k place : ℤ) (inner rest : List ℕ) (found : ℤ × List ℕ) → IsNumberOf length origin → SpellsDistance inner k → nat_abs k < length → place ≡ wrapped length origin k → past_bracket place rest ≡ Ok found
    → IsOffsetRead length origin (inner ++ rest) found
closed length origin k place inner rest found i s h w e =
    let b = bracket_sound place rest found e in
    let away : LiesAway length origin k found.0 = subst (LiesAway length origin k) (sym w ∙ b.1) (away_of length origin k i h) in
    (inner ++ 93 ∷ [], ap (λ r. inner ++ r) b.0 ∙ sym (append_assoc inner (93 ∷ []) found.1), (inner, k, refl, s, h, away))

on_sound : (length : ℕ) (origin : ℤ) (text : List ℕ) (found : ℤ × List ℕ) → IsNumberOf length origin → offset_on_at length origin text ≡ Ok found → IsOffsetRead length origin text found
on_sound length origin text found i e =
    let rest = past_run is_digit text in
    let one = bound (number_at 2147483647 text) (λ n. offset length origin (pos n) n >>= λ place. past_bracket place rest) found e in
    let two = bound (offset length origin (pos one.0) one.0) (λ place. past_bracket place rest) found one.2 in
    let place = offset_sound length origin (pos one.0) two.0 one.0 two.1 in
    let number = number_sound 2147483647 one.0 text one.1 in
    subst (λ t. IsOffsetRead length origin t found) (sym (run_and_rest is_digit text))
    (closed length origin (pos one.0) two.0 (run_of is_digit text) rest found i (one.0, inl (number, refl)) place.0 place.1 two.2)

back_sound : (length : ℕ) (origin : ℤ) (text : List ℕ) (found : ℤ × List ℕ) → IsNumberOf length origin → offset_back_at length origin text ≡ Ok found → IsOffsetRead length origin (45 ∷ text) found
back_sound length origin text found i e =
    let rest = past_run is_digit text in
    let one = bound (number_at 2147483648 text) (λ n. offset length origin (neg_ℤ (pos n)) n >>= λ place. past_bracket place rest) found e in
    let two = bound (offset length origin (neg_ℤ (pos one.0)) one.0) (λ place. past_bracket place rest) found one.2 in
    let place = offset_sound length origin (neg_ℤ (pos one.0)) two.0 one.0 two.1 in
    let number = number_sound 2147483648 one.0 text one.1 in
    let near : nat_abs (neg_ℤ (pos one.0)) < length = omega (arith, nat_abs_neg one.0, place.0) in
    subst (λ t. IsOffsetRead length origin (45 ∷ t) found) (sym (run_and_rest is_digit text))
    (closed length origin (neg_ℤ (pos one.0)) two.0 (45 ∷ run_of is_digit text) rest found i (one.0, inr (run_of is_digit text, refl, number, refl)) near place.1 two.2)

offset_at_sound : (length : ℕ) (origin : ℤ) (text : List ℕ) (found : ℤ × List ℕ) → IsNumberOf length origin → offset_at length origin text ≡ Ok found → IsOffsetRead length origin text found
offset_at_sound length origin [] found i e = absurd (cc)
offset_at_sound length origin (c ∷ cs) found i e =
    elim (cases_Bool (eqb c 45)) [
      | inl t ↦ subst (λ x. IsOffsetRead length origin (x ∷ cs) found) (sym (eqb-true c 45 t)) (back_sound length origin cs found i (rw t at e))
      | inr f ↦ on_sound length origin (c ∷ cs) found i (rw f at e)
    ]

part_digits : (length : ℕ) (origin : ℤ) (text : List ℕ) → first_is is_digit text ≡ true → part_at length origin text ≡ absolute_at length text
part_digits length origin [] f = absurd (true≢false (sym f))
part_digits length origin (c ∷ cs) f = rw f refl

pub part_sound : (length : ℕ) (origin : ℤ) (text : List ℕ) (found : ℤ × List ℕ) → IsNumberOf length origin → part_at length origin text ≡ Ok found → IsPartRead length origin text found
part_sound length origin [] found i e =
    let same : (origin, []) ≡ found = cc in subst (IsPartRead length origin []) same ([], refl, inl (refl, refl))
part_sound length origin (c ∷ cs) found i e =
    elim (cases_Bool (is_digit c)) [
      | inl t ↦ absolute_at_sound length origin (c ∷ cs) found (sym (part_digits length origin (c ∷ cs) t) ∙ e)
      | inr f ↦ elim (cases_Bool (eqb c 91)) [
        | inl t ↦
            let o = offset_at_sound length origin cs found i (rw (f, t) at e) in
            (91 ∷ o.0, ap (λ x. x ∷ cs) (eqb-true c 91 t) ∙ ap (λ r. 91 ∷ r) o.1, inr (inr o.2))
        | inr g ↦
            let some : Ok (origin, c ∷ cs) ≡ Ok found = rw (f, g) at e in
            let same : (origin, c ∷ cs) ≡ found = cc in
            subst (IsPartRead length origin (c ∷ cs)) same ([], refl, inl (refl, refl))
      ]
    ]

-- What is spelled is read

offset_digits : (length : ℕ) (origin : ℤ) (text : List ℕ) → first_is is_digit text ≡ true → offset_at length origin text ≡ offset_on_at length origin text
offset_digits length origin [] f = absurd (true≢false (sym f))
offset_digits length origin (c ∷ cs) f = rw (other_than_digit c 45 f refl) refl

part_nothing : (length : ℕ) (origin : ℤ) (rest : List ℕ) → first_is is_digit rest ≡ false → first_is is_open rest ≡ false → part_at length origin rest ≡ Ok (origin, rest)
part_nothing length origin [] f g = refl
part_nothing length origin (c ∷ cs) f g = rw (f, g) refl

absolute_at_complete : (length n : ℕ) (place : ℤ) (digits rest : List ℕ) → length ≤ 2097152 → SpellsNumber digits n → IsNumberOf length place → place ≡ pos n → first_is is_digit rest ≡ false
    → absolute_at length (digits ++ rest) ≡ Ok (place, rest)
absolute_at_complete length n place digits rest m s i e f =
    let low : 1 ≤ n = omega (arith, ints, i.0, e) in
    let high : n ≤ length = omega (arith, ints, i.1, e) in
    let number = number_complete 2147483647 n digits rest s (omega arith) f in
    let text = digits ++ rest in
    bind (number_at 2147483647 text) (λ n. absolute length n >>= λ place. Ok (place, past_run is_digit text)) n number.0
    ∙ bind (absolute length n) (λ place. Ok (place, past_run is_digit text)) (pos n) (absolute_complete length n low high)
    ∙ ap (λ r. Ok (pos n, r)) number.1 ∙ ap (λ p. Ok (p, rest)) (sym e)

on_complete : (length n : ℕ) (origin place : ℤ) (digits rest : List ℕ) → length ≤ 2097152 → SpellsNumber digits n → n < length → wrapped length origin (pos n) ≡ place
    → offset_on_at length origin (digits ++ 93 ∷ rest) ≡ Ok (place, rest)
on_complete length n origin place digits rest m s h w =
    let number = number_complete 2147483647 n digits (93 ∷ rest) s (omega arith) refl in
    let text = digits ++ 93 ∷ rest in
    let near : offset length origin (pos n) n ≡ Ok (wrapped length origin (pos n)) = rw (lt-ltb n length h) refl in
    bind (number_at 2147483647 text) (λ n. offset length origin (pos n) n >>= λ place. past_bracket place (past_run is_digit text)) n number.0
    ∙ bind (offset length origin (pos n) n) (λ place. past_bracket place (past_run is_digit text)) (wrapped length origin (pos n)) near
    ∙ ap (past_bracket (wrapped length origin (pos n))) number.1 ∙ ap (λ p. Ok (p, rest)) w

back_complete : (length n : ℕ) (origin place : ℤ) (digits rest : List ℕ) → length ≤ 2097152 → SpellsNumber digits n → n < length → wrapped length origin (neg_ℤ (pos n)) ≡ place
    → offset_back_at length origin (digits ++ 93 ∷ rest) ≡ Ok (place, rest)
back_complete length n origin place digits rest m s h w =
    let number = number_complete 2147483648 n digits (93 ∷ rest) s (omega arith) refl in
    let text = digits ++ 93 ∷ rest in
    let near : offset length origin (neg_ℤ (pos n)) n ≡ Ok (wrapped length origin (neg_ℤ (pos n))) = rw (lt-ltb n length h) refl in
    bind (number_at 2147483648 text) (λ n. offset length origin (neg_ℤ (pos n)) n >>= λ place. past_bracket place (past_run is_digit text)) n number.0
    ∙ bind (offset length origin (neg_ℤ (pos n)) n) (λ place. past_bracket place (past_run is_digit text)) (wrapped length origin (neg_ℤ (pos n))) near
    ∙ ap (past_bracket (wrapped length origin (neg_ℤ (pos n)))) number.1 ∙ ap (λ p. Ok (p, rest)) w

distance_complete : (length : ℕ) (origin k place : ℤ) (inner rest : List ℕ) → length ≤ 2097152 → SpellsDistance inner k → nat_abs k < length → wrapped length origin k ≡ place
    → offset_at length origin (inner ++ 93 ∷ rest) ≡ Ok (place, rest)
distance_complete length origin k place inner rest m (n, inl s) h w =
    let e = ap (wrapped length origin) (sym s.1) ∙ w in
    offset_digits length origin (inner ++ 93 ∷ rest) (digits_begin inner (93 ∷ rest) s.0.0 s.0.1)
    ∙ on_complete length n origin place inner rest m s.0 (omega (arith, h, ap nat_abs s.1)) e
distance_complete length origin k place inner rest m (n, inr s) h w =
    let e = ap (wrapped length origin) (sym s.3) ∙ w in
    ap (λ t. offset_at length origin (t ++ 93 ∷ rest)) s.1
    ∙ back_complete length n origin place s.0 rest m s.2 (omega (arith, h, ap nat_abs s.3, nat_abs_neg n)) e

offset_complete : (length : ℕ) (origin place : ℤ) (front rest : List ℕ) → length ≤ 2097152 → SpellsOffset length origin front place → part_at length origin (front ++ rest) ≡ Ok (place, rest)
offset_complete length origin place front rest m s =
    ap (λ t. part_at length origin (t ++ rest)) s.2
    ∙ ap (offset_at length origin) (append_assoc s.0 (93 ∷ []) rest)
    ∙ distance_complete length origin s.1 place s.0 rest m s.3 s.4 (away_is length origin s.1 place s.5)

pub part_complete : (length : ℕ) (origin place : ℤ) (front rest : List ℕ) → length ≤ 2097152 → SpellsPart length origin front place → first_is is_digit rest ≡ false → first_is is_open rest ≡ false
    → part_at length origin (front ++ rest) ≡ Ok (place, rest)
part_complete length origin place front rest m (inl s) f g =
    ap (λ t. part_at length origin (t ++ rest)) s.0 ∙ part_nothing length origin rest f g ∙ ap (λ p. Ok (p, rest)) (sym s.1)
part_complete length origin place front rest m (inr (inl s)) f g =
    part_digits length origin (front ++ rest) (digits_begin front rest s.1.0 s.1.1) ∙ absolute_at_complete length s.0 place front rest m s.1 s.2 s.3 f
part_complete length origin place front rest m (inr (inr s)) f g = offset_complete length origin place front rest m s
