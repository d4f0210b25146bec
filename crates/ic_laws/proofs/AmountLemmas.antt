-- Digits and the numbers that they write.
use Rattle.std.proofs.Common.{◌≡◌, ◌≢◌, ℕ, zero, suc, nat_eq, ◌+◌, ◌*◌, ◌-◌, ◌/◌, ◌%◌, ◌^◌, ◌<◌, ◌≤◌, List, [], ◌∷◌, ◌++◌, true, false, None, length, nat_le, arith, append_assoc, refl, inl, inr, ap, sym, ◌∙◌}
use Rattle.std.proofs.Math.Nat.{div-lt_iff_lt-mul, one-le-pow}
use Rattle.std.specs.Str.{all_ascii_digits}
use Rattle.std.specs.Str.Parse.{digits_value, digits_value_after}
use Rattle.std.specs.Char.{digit_value}
use Rattle.std.proofs.lemmas.Bool.{cases_Bool, and_parts}
use Rattle.std.proofs.lemmas.Bool.Decides.{nat_tests}
use Rattle.std.proofs.lemmas.Str.Parse.{digits_value_short, numerals_by_value, tells_all_ascii_digits, IsNumeralModel}
use Rattle.ic_laws.specs.Amount.{units_of, units_by, fraction_digits}
use Rattle.ic_laws.specs.Scan.{is_digit, run_of, past_run}

-- more digits don't make a number smaller
pub digits_value_after-ge : (n : ℕ) (digits : List ℕ) → n ≤ digits_value_after 10 n digits
digits_value_after-ge n [] = omega arith
digits_value_after-ge n (c ∷ cs) = omega (arith, digits_value_after-ge (n * 10 + digit_value c) cs)

pub digit_value-is : (c : ℕ) → is_digit c ≡ true → digit_value c ≡ c - 48
digit_value-is c h = grind (arith, nat_tests)

-- the number is past a limit as soon as that of the first digits is
pub past_limit : (most value c : ℕ) (text rest : List ℕ) → text ≡ c ∷ rest → is_digit c ≡ true → most < value * 10 + (c - 48) → most < digits_value_after 10 value (run_of is_digit text)
past_limit most value c text rest e digit over =
    let ge = digits_value_after-ge (value * 10 + digit_value c) (run_of is_digit rest) in
    let same = digit_value-is c digit in
    rw (e, digit) (omega (arith, ge, same))

-- digits alone are one run
pub run_of-digits : (text : List ℕ) → all_ascii_digits text ≡ true → run_of is_digit text ≡ text
run_of-digits [] h = refl
run_of-digits (c ∷ cs) h = let both = and_parts (is_digit c) (all_ascii_digits cs) h in rw both.0 (ap (λ ds. c ∷ ds) (run_of-digits cs both.1))

-- where nothing stands after the run, there are digits alone
pub all_digits-from_past : (text : List ℕ) → past_run is_digit text ≡ [] → all_ascii_digits text ≡ true
all_digits-from_past [] h = refl
all_digits-from_past (c ∷ cs) h =
    elim (cases_Bool (is_digit c)) [
      | inl d ↦ rw d (all_digits-from_past cs (rw d at h))
      | inr n ↦ let no : c ∷ cs ≡ [] = rw n at h in cc
    ]

-- where something does, there are not
pub not_digits-from_past : (text : List ℕ) → past_run is_digit text ≢ [] → all_ascii_digits text ≡ false
not_digits-from_past [] h = absurd (h refl)
not_digits-from_past (c ∷ cs) h =
    elim (cases_Bool (is_digit c)) [ inl d ↦ rw d (not_digits-from_past cs (rw d at h)) | inr n ↦ rw n refl ]

pub numerals : IsNumeralModel (λ ds. all_ascii_digits ds ≡ true) (digits_value 10)
numerals = numerals_by_value _ tells_all_ascii_digits

-- what writes more than nine digits can write is no fraction
pub units_of-long : (whole count : ℕ) (text : List ℕ) → 999999999 < digits_value 10 (run_of is_digit text) → units_of whole count text ≡ None
units_of-long whole count text over =
    elim (cases_Bool (all_ascii_digits text)) [
      | inl all ↦
          let large : 999999999 < digits_value 10 text = rw (run_of-digits text all) at over in
          elim (cases_Bool (nat_le (length text) 9)) [
            | inl few ↦ absurd (omega (arith, digits_value_short numerals text 9 all (grind (arith, nat_tests))))
            | inr many ↦ rw (all, many) refl
          ]
      | inr not_all ↦ rw not_all refl
    ]

-- the digits of a whole fraction
pub units_of-digits : (whole count : ℕ) (text : List ℕ) → past_run is_digit text ≡ [] → units_by whole count (digits_value 10 (run_of is_digit text)) (length (run_of is_digit text)) ≡ units_of whole count text
units_of-digits whole count text h =
    let all = all_digits-from_past text h in rw (run_of-digits text all, all) refl

-- a text with more than digits is no fraction
pub units_of-more : (whole count : ℕ) (text : List ℕ) → past_run is_digit text ≢ [] → units_of whole count text ≡ None
units_of-more whole count text h = rw (not_digits-from_past text h) refl

-- the digits of nothing are none, and the first digit of another fraction is what is taken off it
pub fraction_digits-zero : (places : ℕ) → fraction_digits places 0 ≡ []
unfolding fraction_digits
fraction_digits-zero zero = refl
fraction_digits-zero (suc places) = refl

pub fraction_digits-first : (places fraction : ℕ) → fraction ≢ 0 → 0 < places → fraction_digits places fraction ≡ (48 + fraction / 10 ^ (places - 1)) ∷ fraction_digits (places - 1) (fraction % 10 ^ (places - 1))
unfolding fraction_digits
fraction_digits-first zero fraction h p = absurd (omega arith)
fraction_digits-first (suc places) fraction h p =
    let e : suc places - 1 ≡ places = omega arith in
    elim (cases_Bool (nat_eq fraction 0)) [
      | inl z ↦ absurd (h (grind (arith, nat_tests)))
      | inr n ↦ rw (e, n) refl
    ]

-- the first of so many places is one digit
pub first_digit : (places fraction : ℕ) → fraction ≢ 0 → fraction < 10 ^ places → (0 < places) × (fraction / 10 ^ (places - 1) < 10)
first_digit zero fraction h l = absurd (h (omega arith))
first_digit (suc places) fraction h l =
    let e : suc places - 1 ≡ places = omega arith in
    let positive : 1 ≤ 10 ^ places = one-le-pow places 10 (omega arith) in
    let below : fraction / 10 ^ places < 10 = (div-lt_iff_lt-mul (omega arith)).1 (omega arith) in
    (omega arith, rw e below)

-- one more digit is written, and what it stands for is taken off
pub one_digit_more : (old new target : List ℕ) (places fraction scale : ℕ) → scale ≡ 10 ^ (places - 1) → fraction ≢ 0 → 0 < places → old ++ fraction_digits places fraction ≡ target → new ≡ old ++ (48 + fraction / scale) ∷ [] → new ++ fraction_digits (places - 1) (fraction % scale) ≡ target
one_digit_more old new target places fraction scale e h p told written =
    rw (written, e, append_assoc) (ap (λ ds. old ++ ds) (sym (fraction_digits-first places fraction h p)) ∙ told)
