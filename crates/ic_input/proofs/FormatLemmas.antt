-- A shown number is its parts one after another, and a shown day is one of the calendar.
use Rattle.std.proofs.Common.{◌≡◌, ℕ, ℤ, pos, negsuc, nat_abs, ◌<◌, ◌≤◌, ◌-ℤ◌, List, [], ◌++◌, refl, sym, ◌∙◌, append_assoc, arith}
use lib.Dec.{T}
use lib.Signed.{non_neg}
use mir.Val.{Fits}
use Rattle.std.specs.Int.{w32}
use Rattle.jiff_core.specs.Calendar.{IsCivilDate, IsYear, day_count, days_from_civil, days_of_months, days_of_years}
use Rattle.jiff_core.proofs.CalendarLemmas.{day_count-lt_year, days_from_civil-day_count}
use Rattle.jiff_core.proofs.SignedLemmas.{signed_arith}
use Rattle.ic_tables.specs.declared.locale.Locale.{Locale}
use Rattle.ic_input.specs.Code.{CodeParts}
use Rattle.ic_input.specs.Convention.{group_of}
use Rattle.ic_tables.specs.Formats.{decimal_separator}
use Rattle.ic_input.specs.Date.{IsDay, last_day}
use Rattle.ic_input.specs.Formatted.{digits_text, last_places, number_text, sign_text}
use Rattle.ic_input.proofs.DateSteps.{day-from_parts, from_epoch}

pub shown_whole : (l : Locale) (c : CodeParts) (v : ℤ) (places : ℕ) (start signed begun digits whole : List ℕ) → start ≡ [] → signed ≡ start ++ sign_text v places → begun ≡ signed ++ c.before → digits ≡ begun ++ digits_text (group_of l) (decimal_separator l) c.decimals places → whole ≡ digits ++ c.after → places ≡ last_places c v → whole ≡ number_text l c v
shown_whole l c v places start signed begun digits whole e0 e1 e2 e3 e4 ep =
    e4 ∙ rw (e3, e2, e1, e0) (simp append_assoc (rw ep refl))

-- 1 January of the year 0
first_of_zero : day_count (pos 0) 1 1 ≡ 3652425
unfolding day_count days_of_years days_of_months
first_of_zero = refl

-- a day with a number lies after the year 0
after_zero : (k m d n : ℕ) → IsCivilDate (negsuc k) m d → days_from_civil (negsuc k) m d ≡ pos n -ℤ pos 25569 → 1 ≤ n → ⊥
after_zero k m d n civil e low =
    let earlier : day_count (negsuc k) m d < day_count (pos 0) 1 1 = day_count-lt_year (negsuc k) m d (pos 0) 1 1 civil (omega arith) (omega (arith, signed_arith)) in
    omega (arith, signed_arith, days_from_civil-day_count (negsuc k) m d, first_of_zero, earlier, e)

-- What the day of a number is.
pub record IsNumbered (y : ℤ) (m d n : ℕ) : Type 0 where
  pub year : y ≡ pos (nat_abs y)
  pub day : IsDay (nat_abs y) m d n

pub numbered : (y : ℤ) (m d n : ℕ) → IsCivilDate y m d → days_from_civil y m d ≡ pos n -ℤ pos 25569 → 1 ≤ n → n ≤ last_day → IsNumbered y m d n
numbered (negsuc k) m d n civil e low high = absurd (after_zero k m d n civil e low)
numbered (pos y) m d n civil e low high =
    record {
      year = refl;
      day =
          record {
            there = day-from_parts y m d civil.1.0 civil.1.1 civil.2.0 civil.2.1;
            number = sym (from_epoch y m d) ∙ rw e (omega (arith, signed_arith));
            first = low;
            last = high;
          };
    }

-- a year from 0 on is written as a number
pub year_fits : (y : ℤ) → y ≡ pos (nat_abs y) → IsYear y → T (non_neg y) × Fits w32 (nat_abs y)
year_fits (pos y) e h = (tt, omega (arith, signed_arith, h))
year_fits (negsuc k) e h = absurd (cc)
