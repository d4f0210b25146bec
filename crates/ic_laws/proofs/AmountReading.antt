-- What reads a number gives exactly the units that the text writes.
use Rattle.std.proofs.Common.{◌≡◌, ◌≢◌, ◌⊎◌, ℕ, zero, suc, ◌+◌, ◌*◌, ◌-◌, ◌^◌, ◌<◌, ◌≤◌, ℤ, pos, List, [], ◌∷◌, ◌++◌, IfSome, option_map, true, false, ◌&&◌, ◌==◌, Option, Some, None, length, nat_le, nat_lt, arith, refl, inl, inr, ap, sym, ◌∙◌}
use Rattle.std.specs.Str.{all_ascii_digits}
use Rattle.std.specs.Str.Parse.{digits_value, digits_value_after}
use Rattle.std.specs.Char.{digit_value}
use Rattle.std.proofs.Math.ListN.{replicate}
use Rattle.std.proofs.lemmas.Bool.{cases_Bool, and_parts}
use Rattle.std.proofs.lemmas.Bool.Decides.{nat_tests}
use Rattle.std.proofs.lemmas.List.{append-nil, length-append}
use Rattle.std.proofs.lemmas.Nat.{pow-add}
use Rattle.ic_laws.specs.Amount.{WritesUnits, if_amount, units_by, units_of, units_of_one, read_units, unsigned_amount}
use Rattle.ic_laws.specs.Scan.{is_digit, run_of, past_run}
use Rattle.ic_laws.proofs.AmountTexts.{digits_value_after-weight, run_of-front, units_by-gives}
use Rattle.ic_laws.proofs.RunLemmas.{run_and_rest}

-- the number that digits and more digits write
pub after-append : (n : ℕ) (a b : List ℕ) → digits_value_after 10 n (a ++ b) ≡ digits_value_after 10 (digits_value_after 10 n a) b
after-append n [] b = refl
after-append n (c ∷ cs) b = after-append (n * 10 + digit_value c) cs b

-- zeros move it to the left
after-zeros : (n k : ℕ) → digits_value_after 10 n (replicate k 48) ≡ n * 10 ^ k
after-zeros n zero = omega arith
after-zeros n (suc k) = after-zeros (n * 10 + 0) k ∙ one_more n (10 ^ k) (10 ^ suc k) (omega arith)
  where
    one_more : (n p q : ℕ) → q ≡ 10 * p → (n * 10 + 0) * p ≡ n * q
    one_more n p q e = rw e (omega arith)

-- the units that digits write, filled up to nine places
filled : (whole fraction : List ℕ) → length fraction ≤ 9
    → digits_value 10 (whole ++ fraction ++ replicate (9 - length fraction) 48) ≡ digits_value 10 whole * units_of_one + digits_value 10 fraction * 10 ^ (9 - length fraction)
filled whole fraction few =
    let k : ℕ = 9 - length fraction in
    let places : length fraction + k ≡ 9 = omega arith in
    let nine : 10 ^ length fraction * 10 ^ k ≡ units_of_one = sym (pow-add 10 (length fraction) k) ∙ ap (λ e. 10 ^ e) places in
    after-append 0 (whole ++ fraction) (replicate k 48) ∙ after-zeros _ k
    ∙ ap (λ n. n * 10 ^ k) (after-append 0 whole fraction ∙ digits_value_after-weight (digits_value 10 whole) fraction)
    ∙ spread (digits_value 10 whole) (10 ^ length fraction) (digits_value 10 fraction) (10 ^ k) units_of_one nine
  where
    spread : (w l f k u : ℕ) → l * k ≡ u → (w * l + f) * k ≡ w * u + f * k
    spread w l f k u e = rw (← e) (omega arith)

-- what units_by tells
record Fits (whole whole_count fraction fraction_count n : ℕ) : Type 0 where
  few : fraction_count ≤ 9
  some : 0 < whole_count + fraction_count
  number : whole * units_of_one + fraction * 10 ^ (9 - fraction_count) ≡ n
  amount : n < 10 ^ 27

if_amount-tells : (units n : ℕ) → if_amount units ≡ Some n → (units ≡ n) × (n < 10 ^ 27)
if_amount-tells units n e =
    elim (cases_Bool (nat_lt units (10 ^ 27))) [
      | inl small ↦ let same : units ≡ n = (let f : Some units ≡ Some n = rw small at e in cc) in (same, grind (arith, nat_tests))
      | inr large ↦ let f : None ≡ Some n = rw large at e in cc
    ]

units_by-tells : (whole whole_count fraction fraction_count n : ℕ) → units_by whole whole_count fraction fraction_count ≡ Some n → Fits whole whole_count fraction fraction_count n
units_by-tells whole whole_count fraction fraction_count n e =
    elim (cases_Bool (nat_le fraction_count 9 && nat_lt 0 (whole_count + fraction_count))) [
      | inl both ↦
          let parts = and_parts (nat_le fraction_count 9) (nat_lt 0 (whole_count + fraction_count)) both in
          let told = if_amount-tells (whole * units_of_one + fraction * 10 ^ (9 - fraction_count)) n (rw both at e) in
          record { few = grind (arith, nat_tests); some = grind (arith, nat_tests); number = told.0; amount = told.1 }
      | inr neither ↦ let f : None ≡ Some n = rw neither at e in cc
    ]

units_of-tells : (whole whole_count : ℕ) (fraction : List ℕ) (n : ℕ) → units_of whole whole_count fraction ≡ Some n → (all_ascii_digits fraction ≡ true) × Fits whole whole_count (digits_value 10 fraction) (length fraction) n
units_of-tells whole whole_count fraction n e =
    elim (cases_Bool (all_ascii_digits fraction)) [
      | inl all ↦ (all, units_by-tells whole whole_count (digits_value 10 fraction) (length fraction) n (rw all at e))
      | inr not_all ↦ let f : None ≡ Some n = rw not_all at e in cc
    ]

-- digits and digits are digits, and the other way round
pub digits_both : (a b : List ℕ) → all_ascii_digits a ≡ true → all_ascii_digits b ≡ true → all_ascii_digits (a ++ b) ≡ true
digits_both [] b da db = db
digits_both (c ∷ cs) b da db = let parts = and_parts (is_digit c) (all_ascii_digits cs) da in rw (parts.0, digits_both cs b parts.1 db) refl

pub digits_apart : (a b : List ℕ) → all_ascii_digits (a ++ b) ≡ true → (all_ascii_digits a ≡ true) × (all_ascii_digits b ≡ true)
digits_apart [] b d = (refl, d)
digits_apart (c ∷ cs) b d =
    let parts = and_parts (is_digit c) (all_ascii_digits (cs ++ b)) d in
    let rest = digits_apart cs b parts.1 in
    (rw (parts.0, rest.0) refl, rest.1)

pub run_of-is_digits : (text : List ℕ) → all_ascii_digits (run_of is_digit text) ≡ true
run_of-is_digits [] = refl
run_of-is_digits (c ∷ cs) = elim (cases_Bool (is_digit c)) [ inl d ↦ rw (d, d, run_of-is_digits cs) refl | inr n ↦ rw n refl ]

counted_some : (xs ys : List ℕ) → 0 < length xs + length ys → xs ++ ys ≢ []
counted_some xs ys some e = let none : length xs + length ys ≡ 0 = sym (length-append xs ys) ∙ ap length e in absurd (omega arith)

some_counted : (xs ys : List ℕ) → xs ++ ys ≢ [] → 0 < length xs + length ys
some_counted [] [] some = absurd (some refl)
some_counted [] (y ∷ ys) some = omega arith
some_counted (x ∷ xs) ys some = omega arith

-- what is read is written
writes : (separator n : ℕ) (text whole fraction : List ℕ) → ((text ≡ whole ++ separator ∷ fraction) ⊎ ((text ≡ whole) × (fraction ≡ [])))
    → all_ascii_digits whole ≡ true → units_of (digits_value 10 whole) (length whole) fraction ≡ Some n → WritesUnits separator text n
writes separator n text whole fraction form digits e =
    let told = units_of-tells (digits_value 10 whole) (length whole) fraction n e in
    let fits = told.1 in
    record {
      whole = whole;
      fraction = fraction;
      form = form;
      digits = digits_both whole fraction digits told.0;
      some = counted_some whole fraction fits.some;
      places = fits.few;
      number = filled whole fraction fits.few ∙ fits.number;
      amount = fits.amount;
    }

read_units-writes : (separator n : ℕ) (text whole rest : List ℕ) → text ≡ whole ++ rest → all_ascii_digits whole ≡ true → read_units separator whole rest ≡ Some n → WritesUnits separator text n
read_units-writes separator n text whole [] split digits e = writes separator n text whole [] (inr (split ∙ append-nil whole, refl)) digits e
read_units-writes separator n text whole (c ∷ fraction) split digits e =
    elim (cases_Bool (c == separator)) [
      | inl same ↦
          let is : c ≡ separator = grind (arith, nat_tests) in
          writes separator n text whole fraction (inl (split ∙ ap (λ x. whole ++ x ∷ fraction) is)) digits (rw same at e)
      | inr other ↦ let f : None ≡ Some n = rw other at e in cc
    ]

pub unsigned_amount-writes : (separator : ℕ) (text : List ℕ) (n : ℕ) → unsigned_amount separator text ≡ Some n → WritesUnits separator text n
unsigned_amount-writes separator text n e =
    read_units-writes separator n text (run_of is_digit text) (past_run is_digit text) (run_and_rest is_digit text) (run_of-is_digits text) e

-- what is written is read, where the separator is no digit
units_of-gives : (whole fraction : List ℕ) (n : ℕ) → all_ascii_digits fraction ≡ true → whole ++ fraction ≢ [] → length fraction ≤ 9
    → digits_value 10 (whole ++ fraction ++ replicate (9 - length fraction) 48) ≡ n → n < 10 ^ 27 → units_of (digits_value 10 whole) (length whole) fraction ≡ Some n
units_of-gives whole fraction n digits some few number amount =
    rw digits
    (units_by-gives (digits_value 10 whole) (length whole) (digits_value 10 fraction) (length fraction) n few (some_counted whole fraction some) (sym (filled whole fraction few) ∙ number) amount)

pub writes-unsigned_amount : (separator : ℕ) (text : List ℕ) (n : ℕ) → is_digit separator ≡ false → WritesUnits separator text n → unsigned_amount separator text ≡ Some n
writes-unsigned_amount separator text n apart w =
    let digits = digits_apart w.whole w.fraction w.digits in
    let gives = units_of-gives w.whole w.fraction n digits.1 w.some w.places w.number w.amount in
    elim w.form [
      | inl with_it ↦
          let run = run_of-front w.whole (separator ∷ w.fraction) digits.0 apart in
          let same : (separator == separator) ≡ true = grind (arith, nat_tests) in
          rw (with_it, run.0, run.1, same) gives
      | inr without ↦
          let run = run_of-front w.whole [] digits.0 refl in
          rw (without.0, sym (append-nil w.whole), run.0, run.1) (rw without.1 at gives)
    ]

-- so an answer by the function is what the text writes, and whatever the text writes
pub answers_written : (separator : ℕ) (text : List ℕ) (r : Option ℤ) → r ≡ option_map pos (unsigned_amount separator text) → IfSome r (λ a. (n : ℕ) × (a ≡ pos n) × WritesUnits separator text n)
answers_written separator text r e = rw e (told (unsigned_amount separator text) refl)
  where
    told : (o : Option ℕ) → unsigned_amount separator text ≡ o → IfSome (option_map pos o) (λ a. (n : ℕ) × (a ≡ pos n) × WritesUnits separator text n)
    told None h = tt
    told (Some n) h = (n, refl, unsigned_amount-writes separator text n h)

pub answers_each : (separator : ℕ) (text : List ℕ) (r : Option ℤ) → r ≡ option_map pos (unsigned_amount separator text) → (n : ℕ) → is_digit separator ≡ false → WritesUnits separator text n → r ≡ Some (pos n)
answers_each separator text r e n apart w = e ∙ ap (option_map pos) (writes-unsigned_amount separator text n apart w)
