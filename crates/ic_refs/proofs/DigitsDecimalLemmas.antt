-- Digits at the front of a text.
use Rattle.std.proofs.Common.{◌≡◌, ◌≤◌, ◌<◌, ℕ, ◌+◌, ◌*◌, ◌-◌, List, [], ◌∷◌, ◌++◌, true, false, ◌&&◌, length, refl, sym, ◌∙◌, ap, inl, inr, arith, leb}
use Rattle.std.specs.Char.{digit_value}
use Rattle.std.specs.List.{list_all}
use Rattle.std.specs.Str.{all_ascii_digits}
use Rattle.std.specs.Str.Parse.{digits_value_after}
use Rattle.std.proofs.lemmas.Bool.{and_parts, and_from, and_right, true≢false, leb-true, leb-false, le-leb, cases_Bool}
use Rattle.ic_laws.specs.Scan.{is_digit, first_is, run_of, past_run}
use Rattle.ic_refs.specs.Digits.{decimal_from, digit_number, number_value}
use Rattle.ic_refs.proofs.DigitsLemmas.{number_taken, read_past, read_stops}
use Rattle.ic_laws.proofs.AmountLemmas.{digit_value-is as digit-counts}

-- more digits make no smaller number
pub after-grows : (n : ℕ) (ds : List ℕ) → n ≤ digits_value_after 10 n ds
after-grows n [] = omega arith
after-grows n (c ∷ ds) = omega (arith, after-grows (n * 10 + digit_value c) ds)

-- one digit is taken
number_one : (limit n c : ℕ) (cs : List ℕ) → is_digit c ≡ true → n * 10 + (c - 48) ≤ limit → decimal_from limit n (c ∷ cs) ≡ decimal_from limit (n * 10 + (c - 48)) cs
number_one limit n c cs d h = rw (and_from (is_digit c) (leb (n * 10 + (c - 48)) limit) d (le-leb _ _ h)) refl

-- digits count as in base 10
pub digits_value_on : (n : ℕ) (cs : List ℕ) → list_all is_digit cs ≡ true → number_value digit_number 10 n cs ≡ digits_value_after 10 n cs
digits_value_on n [] a = refl
digits_value_on n (c ∷ cs) a =
    let parts = and_parts (is_digit c) (list_all is_digit cs) a in
    rw (digit-counts c parts.0) (digits_value_on (n * 10 + (c - 48)) cs parts.1)

pub all_digits : (cs : List ℕ) → all_ascii_digits cs ≡ list_all is_digit cs
all_digits [] = refl
all_digits (c ∷ cs) = ap (λ b. is_digit c && b) (all_digits cs)

-- digits are taken while the number stays within the limit
pub number_over : (limit n : ℕ) (ds after : List ℕ) → all_ascii_digits ds ≡ true → digits_value_after 10 n ds ≤ limit → decimal_from limit n (ds ++ after) ≡ decimal_from limit (digits_value_after 10 n ds) after
number_over limit n ds after d h =
    let all : list_all is_digit ds ≡ true = sym (all_digits ds) ∙ d in
    let value = digits_value_on n ds all in
    read_past is_digit digit_number 10 limit n ds after (omega arith) all (omega (arith, value, h)) ∙ ap (λ v. decimal_from limit v after) value

-- and no digit is taken where none stands
pub number_stops : (limit n : ℕ) (after : List ℕ) → first_is is_digit after ≡ false → decimal_from limit n after ≡ (n, after)
number_stops limit n after h = read_stops is_digit digit_number 10 limit n after h

-- what is left is no longer than the text
pub number_rest_le : (limit n : ℕ) (text : List ℕ) → length (decimal_from limit n text).1 ≤ length text
number_rest_le limit n text = (number_taken is_digit digit_number 10 limit n text).shorter

-- What was read are digits, their number and the rest.
pub record AreDigitsRead (limit n : ℕ) (text : List ℕ) (read : ℕ × List ℕ) : Type 0 where
  pub digits : List ℕ
  pub whole : text ≡ digits ++ read.1
  pub ascii : all_ascii_digits digits ≡ true
  pub value : digits_value_after 10 n digits ≡ read.0
  pub within : n ≤ limit → read.0 ≤ limit

pub number_reads : (limit n : ℕ) (text : List ℕ) → AreDigitsRead limit n text (decimal_from limit n text)
number_reads limit n text =
    let t = number_taken is_digit digit_number 10 limit n text in
    record {
      digits = t.front;
      whole = t.whole;
      ascii = all_digits t.front ∙ t.all;
      value = sym (digits_value_on n t.front t.all) ∙ sym t.number;
      within = t.within;
    }

-- no digit is taken where it would be too much
number_none : (limit n c : ℕ) (cs : List ℕ) → leb (n * 10 + (c - 48)) limit ≡ false → decimal_from limit n (c ∷ cs) ≡ (n, c ∷ cs)
number_none limit n c cs k = rw (and_right (is_digit c) (leb (n * 10 + (c - 48)) limit) k) refl

-- Where no digit is left, the number is that of all digits at the front.
pub number_all : (limit n : ℕ) (text : List ℕ) → first_is is_digit (decimal_from limit n text).1 ≡ false → (digits_value_after 10 n (run_of is_digit text) ≡ (decimal_from limit n text).0) × (past_run is_digit text ≡ (decimal_from limit n text).1)
number_all limit n [] h = (refl, refl)
number_all limit n (c ∷ cs) h =
    elim (cases_Bool (is_digit c)) [
      | inr f ↦ rw f (refl, refl)
      | inl d ↦ elim (cases_Bool (leb (n * 10 + (c - 48)) limit)) [
        | inl k ↦
            let e = number_one limit n c cs d (leb-true _ _ k) in
            let g : n * 10 + digit_value c ≡ n * 10 + (c - 48) = ap (λ v. n * 10 + v) (digit-counts c d) in
            let ih = number_all limit (n * 10 + (c - 48)) cs (sym (ap (λ r. first_is is_digit r.1) e) ∙ h) in
            rw (d, k) (ap (λ v. digits_value_after 10 v (run_of is_digit cs)) g ∙ ih.0, ih.1)
        | inr k ↦ let b : is_digit c ≡ false = sym (ap (λ r. first_is is_digit r.1) (number_none limit n c cs k)) ∙ h in absurd (true≢false (sym d ∙ b))
      ]
    ]

-- Where one is left, that number is too large.
pub number_past : (limit n : ℕ) (text : List ℕ) → first_is is_digit (decimal_from limit n text).1 ≡ true → limit < digits_value_after 10 n (run_of is_digit text)
number_past limit n [] h = absurd (true≢false (sym h))
number_past limit n (c ∷ cs) h =
    elim (cases_Bool (is_digit c)) [
      | inr f ↦
          let e : decimal_from limit n (c ∷ cs) ≡ (n, c ∷ cs) = number_stops limit n (c ∷ cs) f in
          absurd (true≢false (sym h ∙ ap (λ r. first_is is_digit r.1) e ∙ f))
      | inl d ↦ elim (cases_Bool (leb (n * 10 + (c - 48)) limit)) [
        | inl k ↦
            let e = number_one limit n c cs d (leb-true _ _ k) in
            let g : n * 10 + digit_value c ≡ n * 10 + (c - 48) = ap (λ v. n * 10 + v) (digit-counts c d) in
            let ih = number_past limit (n * 10 + (c - 48)) cs (sym (ap (λ r. first_is is_digit r.1) e) ∙ h) in
            rw d (omega (arith, ih, ap (λ v. digits_value_after 10 v (run_of is_digit cs)) g))
        | inr k ↦
            rw d (omega (arith, leb-false _ _ k, digit-counts c d, after-grows (n * 10 + digit_value c) (run_of is_digit cs)))
      ]
    ]
