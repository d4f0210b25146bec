-- What is written of an amount is read back.
use Rattle.std.proofs.Common.{◌≡◌, ◌≢◌, ℕ, zero, suc, nat_eq, ◌+◌, ◌*◌, ◌-◌, ◌/◌, ◌%◌, ◌^◌, ◌<◌, ◌≤◌, List, [], ◌∷◌, ◌++◌, true, false, Some, length, nat_le, nat_lt, ◌==◌, arith, refl, inl, inr, ap, sym, subst, ◌∙◌}
use Rattle.std.specs.Fmt.{decimal}
use Rattle.std.specs.Str.{all_ascii_digits}
use Rattle.std.specs.Str.Parse.{digits_value, digits_value_after}
use Rattle.std.specs.Char.{digit_value, is_ascii_digit}
use Rattle.std.proofs.Math.Nat.{one-le-pow, mod-lt}
use Rattle.std.proofs.lemmas.Bool.{cases_Bool, and_parts}
use Rattle.std.proofs.lemmas.Bool.Decides.{nat_tests}
use Rattle.std.proofs.lemmas.Nat.{pow-add}
use Rattle.std.proofs.lemmas.Fmt.{digits_decimal, digits_value-decimal, decimal_nonempty}
use Rattle.ic_laws.specs.Amount.{units_of_one, units_by, fraction_digits, unsigned_text, unsigned_amount}
use Rattle.ic_laws.specs.Scan.{is_digit, run_of, past_run, first_is}
use Rattle.ic_laws.proofs.AmountLemmas.{digit_value-is, fraction_digits-first, fraction_digits-zero, first_digit, numerals}

-- digits that follow a number move it to the left
pub digits_value_after-weight : (n : ℕ) (digits : List ℕ) → digits_value_after 10 n digits ≡ n * 10 ^ length digits + digits_value 10 digits
digits_value_after-weight n [] = omega arith
digits_value_after-weight n (c ∷ cs) =
    let here = digits_value_after-weight (n * 10 + digit_value c) cs in
    let there = digits_value_after-weight (0 * 10 + digit_value c) cs in
    here ∙ shifted n (digit_value c) (10 ^ length cs) (digits_value 10 cs) (digits_value_after 10 (0 * 10 + digit_value c) cs) (10 ^ suc (length cs)) there (omega arith)
  where
    shifted : (n d p v w q : ℕ) → w ≡ (0 * 10 + d) * p + v → q ≡ 10 * p → (n * 10 + d) * p + v ≡ n * q + w
    shifted n d p v w q e f = rw (e, f) (omega arith)

-- the digits of a fraction of so many places: they are digits, no more than the places, and with the places that are
-- left out they write the fraction
record Writes (places fraction : ℕ) (digits : List ℕ) : Type 0 where
  all : all_ascii_digits digits ≡ true
  few : length digits ≤ places
  number : digits_value 10 digits * 10 ^ (places - length digits) ≡ fraction

digit-is : (d : ℕ) → d < 10 → (is_ascii_digit (48 + d) ≡ true) × (digit_value (48 + d) ≡ d)
digit-is d l = let e : is_ascii_digit (48 + d) ≡ true = grind (arith, nat_tests) in (e, digit_value-is (48 + d) e ∙ omega arith)

fraction_writes : (places fraction : ℕ) → fraction < 10 ^ places → Writes places fraction (fraction_digits places fraction)
fraction_writes zero fraction l =
    let e : fraction ≡ 0 = omega arith in
    rw (e, fraction_digits-zero 0) (record { all = refl; few = omega arith; number = refl })
fraction_writes (suc places) fraction l =
    elim (cases_Bool (nat_eq fraction 0)) [
      | inl z ↦
          let e : fraction ≡ 0 = grind (arith, nat_tests) in
          rw (e, fraction_digits-zero (suc places)) (record { all = refl; few = omega arith; number = omega arith })
      | inr n ↦
          let h : fraction ≢ 0 = grind (arith, nat_tests) in
          let less : suc places - 1 ≡ places = omega arith in
          let first = first_digit (suc places) fraction h l in
          let positive : 1 ≤ 10 ^ places = one-le-pow places 10 (omega arith) in
          let rest = fraction_writes places (fraction % 10 ^ places) (mod-lt fraction (omega arith)) in
          let digit : fraction / 10 ^ places < 10 = rw less at first.1 in
          let more = fraction_digits-first (suc places) fraction h (omega arith) in
          rw (more, less) (one_more places fraction (10 ^ places) (fraction_digits places (fraction % 10 ^ places)) refl digit rest)
    ]
  where
    one_more : (places fraction scale : ℕ) (digits : List ℕ) → scale ≡ 10 ^ places → fraction / scale < 10 → Writes places (fraction % scale) digits → Writes (suc places) fraction ((48 + fraction / scale) ∷ digits)
    one_more places fraction scale digits e l rest =
        let d = digit-is (fraction / scale) l in
        let few = rest.few in
        let left : suc places - suc (length digits) ≡ places - length digits = omega arith in
        let split : 10 ^ length digits * 10 ^ (places - length digits) ≡ scale =
        sym (pow-add 10 (length digits) (places - length digits)) ∙ ap (λ k. 10 ^ k) (omega arith) ∙ sym e in
        let positive : 1 ≤ scale = subst (λ s. 1 ≤ s) (sym e) (one-le-pow places 10 (omega arith)) in
        let whole : fraction / scale * scale + fraction % scale ≡ fraction = omega arith in
        let weight : digits_value 10 ((48 + fraction / scale) ∷ digits) ≡ fraction / scale * 10 ^ length digits + digits_value 10 digits =
        digits_value_after-weight (0 + digit_value (48 + fraction / scale)) digits ∙ ap (λ n. n * 10 ^ length digits + digits_value 10 digits) (omega (arith, d.1)) in
        let number : digits_value 10 ((48 + fraction / scale) ∷ digits) * 10 ^ (suc places - suc (length digits)) ≡ fraction =
        rw (weight, left) (regrouped (fraction / scale) (10 ^ length digits) (digits_value 10 digits) (10 ^ (places - length digits)) (fraction % scale) fraction scale split rest.number whole) in
        record { all = rw (d.0, rest.all) refl; few = omega arith; number = number }
      where
        regrouped : (q l v t r f s : ℕ) → l * t ≡ s → v * t ≡ r → q * s + r ≡ f → (q * l + v) * t ≡ f
        regrouped q l v t r f s a b c = omega (arith, ap (λ x. q * x) a)

-- a run of digits ends where no digit follows
pub run_of-front : (digits tail : List ℕ) → all_ascii_digits digits ≡ true → first_is is_digit tail ≡ false → (run_of is_digit (digits ++ tail) ≡ digits) × (past_run is_digit (digits ++ tail) ≡ tail)
run_of-front [] [] all apart = (refl, refl)
run_of-front [] (c ∷ tail) all apart = (rw apart refl, rw apart refl)
run_of-front (d ∷ digits) tail all apart =
    let both = and_parts (is_digit d) (all_ascii_digits digits) all in
    let rest = run_of-front digits tail both.1 apart in
    (rw both.0 (ap (λ ds. d ∷ ds) rest.0), rw both.0 rest.1)

pub units_by-gives : (whole count fraction places n : ℕ) → places ≤ 9 → 0 < count + places → whole * units_of_one + fraction * 10 ^ (9 - places) ≡ n → n < 10 ^ 27 → units_by whole count fraction places ≡ Some n
units_by-gives whole count fraction places n few some e small =
    let a : nat_le places 9 ≡ true = grind (arith, nat_tests) in
    let b : nat_lt 0 (count + places) ≡ true = grind (arith, nat_tests) in
    let c : nat_lt n (10 ^ 27) ≡ true = grind (arith, nat_tests) in
    rw (a, b, e, c) refl

-- the text of an amount from 0 on is read as that amount
pub unsigned_amount-text : (separator n : ℕ) → n < 10 ^ 27 → is_digit separator ≡ false → unsigned_amount separator (unsigned_text separator n) ≡ Some n
unsigned_amount-text separator n small apart =
    let w : ℕ = n / units_of_one in
    let large : w < 2 ^ 64 = omega arith in
    let all : all_ascii_digits (decimal w) ≡ true = digits_decimal numerals w large in
    let value : digits_value 10 (decimal w) ≡ w = digits_value-decimal numerals w large in
    let some = decimal_nonempty w large in
    elim (cases_Bool (nat_eq (n % units_of_one) 0)) [
      | inl z ↦
          let e : n % units_of_one ≡ 0 = grind (arith, nat_tests) in
          let run = run_of-front (decimal w) [] all refl in
          rw (z, run.0, run.1, value) (units_by-gives w (length (decimal w)) 0 0 n (omega arith) (omega arith) (omega arith) small)
      | inr f ↦
          let fraction = fraction_writes 9 (n % units_of_one) (omega arith) in
          let few = fraction.few in
          let run = run_of-front (decimal w) (separator ∷ fraction_digits 9 (n % units_of_one)) all apart in
          let same : (separator == separator) ≡ true = grind (arith, nat_tests) in
          rw (f, run.0, run.1, same, value, fraction.all)
          (units_by-gives w (length (decimal w)) (digits_value 10 (fraction_digits 9 (n % units_of_one))) (length (fraction_digits 9 (n % units_of_one))) n few (omega arith) (rw fraction.number (omega arith)) small)
    ]
