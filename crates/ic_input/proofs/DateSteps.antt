-- Dates are read field by field, and their days are those of the calendar.
use Rattle.std.proofs.Common.{◌≡◌, ℕ, zero, suc, ℤ, pos, negsuc, ◌+◌, ◌*◌, ◌-◌, ◌<◌, ◌≤◌, ◌+ℤ◌, ◌-ℤ◌, List, [], ◌∷◌, true, ◌&&◌, nat_le, ◌⊎◌, length, None, refl, sym, ap, ◌∙◌, inl, inr, arith}
use Rattle.std.specs.Char.{digit_value}
use Rattle.std.specs.Str.Parse.{digits_value_after}
use Rattle.std.proofs.lemmas.Bool.{cases_Bool, and_from, and_parts, le-leb, leb-true}
use Rattle.std.proofs.lemmas.Bool.Decides.{nat_tests}
use Rattle.jiff_core.proofs.SignedLemmas.{signed_arith}
use Rattle.jiff_core.specs.Calendar.{IsDate, days_from_civil, days_in_month, day_count, days_of_years, days_of_months}
use Rattle.jiff_core.proofs.CalendarLemmas.{days_in_month_bounds}
use Rattle.ic_laws.specs.AmountFront.{past_some, some_digits}
use Rattle.ic_laws.specs.Scan.{is_digit}
use Rattle.ic_laws.proofs.AmountLemmas.{digit_value-is}
use Rattle.ic_input.specs.Date.{IsDigit, IsNoDigit, day_number, day_of, in_range, is_day}

-- What one more digit says of the digits of a field.
pub record IsOneDigit (left value digit : ℕ) (text rest : List ℕ) : Type 0 where
  pub number : digits_value_after 10 (value * 10 + digit) (some_digits (left - 1) rest) ≡ digits_value_after 10 value (some_digits left text)
  pub count : length (some_digits left text) ≡ suc (length (some_digits (left - 1) rest))
  pub after : past_some (left - 1) rest ≡ past_some left text

pub one_digit : (left value digit : ℕ) (text rest : List ℕ) → IsDigit left digit text rest → IsOneDigit left value digit text rest
one_digit zero value digit text rest h = absurd (omega (arith, h.0))
one_digit (suc k) value digit text rest h =
    let below : digit < 10 = h.1 in
    let is : is_digit (48 + digit) ≡ true = grind (arith, nat_tests) in
    let counts : digit_value (48 + digit) ≡ digit = digit_value-is (48 + digit) is ∙ omega arith in
    let less : suc k - 1 ≡ k = omega arith in
    record {
      number = rw (h.2, is, less) (ap (λ n. digits_value_after 10 n (some_digits k rest)) (ap (λ n. value * 10 + n) (sym counts)));
      count = rw (h.2, is, less) refl;
      after = rw (h.2, is, less) refl;
    }

-- where no digit is taken, none is left
pub no_digit : (left : ℕ) (text : List ℕ) → IsNoDigit left text → (some_digits left text ≡ []) × (past_some left text ≡ text)
no_digit zero text h = (refl, refl)
no_digit (suc k) [] h = (refl, refl)
no_digit (suc k) (c ∷ cs) (inl e) = absurd (omega (arith, e))
no_digit (suc k) (c ∷ cs) (inr e) = (rw e refl, rw e refl)

-- the parts of the test of a day
pub day-parts : (year month day : ℕ) → is_day year month day ≡ true → (1 ≤ month) × (month ≤ 12) × (1 ≤ day) × (day ≤ days_in_month (pos year) month)
day-parts year month day h =
    let p = and_parts (nat_le 1 month && nat_le month 12 && nat_le 1 day) (nat_le day (days_in_month (pos year) month)) h in
    let q = and_parts (nat_le 1 month && nat_le month 12) (nat_le 1 day) p.0 in
    let r = and_parts (nat_le 1 month) (nat_le month 12) q.0 in
    (leb-true _ _ r.0, leb-true _ _ r.1, leb-true _ _ q.1, leb-true _ _ p.1)

pub day-from_parts : (year month day : ℕ) → 1 ≤ month → month ≤ 12 → 1 ≤ day → day ≤ days_in_month (pos year) month → is_day year month day ≡ true
day-from_parts year month day a b c d =
    and_from _ _ (and_from _ _ (and_from _ _ (le-leb _ _ a) (le-leb _ _ b)) (le-leb _ _ c)) (le-leb _ _ d)

-- where a day isn't there it has no number
pub no_day : (year month day : ℕ) → (is_day year month day ≡ true → ⊥) → None ≡ day_of year month day
unfolding day_of
no_day year month day h =
    elim (cases_Bool (is_day year month day)) [ inl e ↦ absurd (h e) | inr e ↦ rw e refl ]

-- no month is past 12, and no day past 31
pub past_day : (year month day : ℕ) → (12 < month) ⊎ ((month ≤ 12) × (31 < day)) → is_day year month day ≡ true → ⊥
past_day year month day (inl h) e = omega (arith, (day-parts year month day e).1)
past_day year month day (inr h) e = omega (arith, (day-parts year month day e).3, (days_in_month_bounds (pos year) month).0, h.1)

-- day 0 is 25,569 days before 1 January 1970
pub first_number : days_from_civil (pos 1899) 12 30 ≡ negsuc 25568
unfolding days_from_civil day_count days_of_years days_of_months
first_number = refl

-- day numbers are those of the calendar's library, which counts from 1 January 1970
pub from_epoch : (year month day : ℕ) → days_from_civil (pos year) month day +ℤ pos 25569 ≡ day_number year month day
unfolding day_number
from_epoch year month day = rw first_number (shifted (days_from_civil (pos year) month day))
  where
    shifted : (z : ℤ) → z +ℤ pos 25569 ≡ z -ℤ negsuc 25568
    shifted z = omega (arith, signed_arith)

pub date-of_day : (year month day : ℕ) → year < 10000 → is_day year month day ≡ true → IsDate (pos year) (pos month) (pos day)
date-of_day year month day y h =
    let p = day-parts year month day h in
    ((omega (arith, signed_arith), omega (arith, signed_arith)), (omega (arith, signed_arith, p.0), omega (arith, signed_arith, p.1)), (omega (arith, signed_arith, p.2), omega (arith, signed_arith, p.3)))

pub day-of_date : (year month day : ℕ) → IsDate (pos year) (pos month) (pos day) → is_day year month day ≡ true
day-of_date year month day h =
    day-from_parts year month day (omega (arith, signed_arith, h.1.0)) (omega (arith, signed_arith, h.1.1)) (omega (arith, signed_arith, h.2.0)) (omega (arith, signed_arith, h.2.1))

-- a day that is there has its number
pub day_found : (year month day : ℕ) (z : ℤ) → is_day year month day ≡ true → z ≡ days_from_civil (pos year) month day +ℤ pos 25569 → in_range z ≡ day_of year month day
unfolding day_of
day_found year month day z h e = rw (h, e, from_epoch year month day) refl
