-- The day of a number is that many days after 30 December 1899.
use Rattle.std.proofs.Common.{◌≡◌, ℕ, zero, suc, ℤ, pos, ◌+◌, ◌≤◌, ◌+ℤ◌, List, true, false, nat_lt, if◌then◌else◌, refl, sym, ap, ◌∙◌, arith, rules}
use Rattle.jiff_core.specs.Calendar.{day_count, days_from_civil, days_in_month, days_in_year, days_of_months, days_of_years}
use Rattle.jiff_core.proofs.CalendarLemmas.{day_count-day, day_count-day_of_year, day_count-next_month, day_count-next_year, days_from_civil-day_count, days_in_month_bounds, days_of_months_all}
use Rattle.jiff_core.proofs.SignedLemmas.{signed_arith}
use borrow.Author.Differences.{up, down}
use Rattle.ic_input.specs.Counted.{CivilDay, CountedIsNumbered, NumberedIsCounted, ShownIsCounted, day_zero, days_after, next_day}
use Rattle.ic_input.specs.Date.{IsDay, IsShownDay, date_text, last_day}
use Rattle.ic_input.proofs.DateSteps.{day-from_parts, from_epoch}
use Rattle.ic_input.proofs.DayLemmas.{same_day}
use Rattle.ic_laws.proofs.SmallestLaws.{below_from_true as less}

-- the days before a year
abbrev pub before : ℕ → ℕ
before year = day_count (pos year) 1 1

pub next_year : (year : ℕ) → before (year + 1) ≡ before year + days_in_year (pos year)
next_year year = day_count-next_year (pos year) (pos (year + 1)) (omega (arith, signed_arith)) (omega (arith, signed_arith))

-- the end of a year
pub year_end : (year : ℕ) → day_count (pos year) 13 1 ≡ before year + days_in_year (pos year)
year_end year = omega (arith, day_count-day_of_year (pos year) 13 1 (omega arith), days_of_months_all (pos year))

pub not_less : (m k : ℕ) → nat_lt m k ≡ false → k ≤ m
not_less m k e = search (rules, arith)

-- Day 0 and those after it, and how many days lie before one.
pub record IsCountedTo (d : CivilDay) (n : ℕ) : Type 0 where
  first : 1 ≤ d.month
  last : d.month ≤ 12
  some : 1 ≤ d.day
  few : d.day ≤ days_in_month (pos d.year) d.month
  count : day_count (pos d.year) d.month d.day ≡ 4346384 + n

zero_counted : IsCountedTo day_zero 0
unfolding day_count days_of_years days_of_months
zero_counted = record { first = omega arith; last = omega arith; some = omega arith; few = omega arith; count = refl }

next_counted : (d : CivilDay) (n : ℕ) → IsCountedTo d n → IsCountedTo (next_day d) (suc n)
next_counted d n h =
    elim (nat_lt d.day (days_in_month (pos d.year) d.month)) as (λ b. nat_lt d.day (days_in_month (pos d.year) d.month) ≡ b → IsCountedTo (if b then record { year = d.year; month = d.month; day = d.day + 1 } else (if nat_lt d.month 12 then record { year = d.year; month = d.month + 1; day = 1 } else record { year = d.year + 1; month = 1; day = 1 })) (suc n)) [
      | true ↦ λ e.
          record {
            first = h.first;
            last = h.last;
            some = omega arith;
            few = omega (arith, less d.day (days_in_month (pos d.year) d.month) e);
            count = omega (arith, h.count, day_count-day (pos d.year) d.month (d.day + 1) d.day (omega arith) h.some);
          }
      | false ↦ λ e.
          let end : days_in_month (pos d.year) d.month ≤ d.day = not_less d.day (days_in_month (pos d.year) d.month) e in
          let after : day_count (pos d.year) (d.month + 1) 1 ≡ 4346384 + suc n = omega (arith, h.count, h.few, end, day_count-next_month (pos d.year) d.month h.first, day_count-day (pos d.year) d.month d.day 1 h.some (omega arith)) in
          elim (nat_lt d.month 12) as (λ b. nat_lt d.month 12 ≡ b → IsCountedTo (if b then record { year = d.year; month = d.month + 1; day = 1 } else record { year = d.year + 1; month = 1; day = 1 }) (suc n)) [
            | true ↦ λ f.
                record {
                  first = omega arith;
                  last = omega (arith, less d.month 12 f);
                  some = omega arith;
                  few = omega (arith, (days_in_month_bounds (pos d.year) (d.month + 1)).1);
                  count = after;
                }
            | false ↦ λ f.
                let december : d.month + 1 ≡ 13 = omega (arith, h.last, not_less d.month 12 f) in
                record {
                  first = omega arith;
                  last = omega arith;
                  some = omega arith;
                  few = omega (arith, (days_in_month_bounds (pos (d.year + 1)) 1).1);
                  count = next_year d.year ∙ sym (year_end d.year) ∙ ap (λ m. day_count (pos d.year) m 1) (sym december) ∙ after;
                }
          ] refl
    ] refl

counted_to : (n : ℕ) → IsCountedTo (days_after n) n
unfolding days_after
counted_to zero = zero_counted
counted_to (suc n) = next_counted (days_after n) n (counted_to n)

-- a number by the count of days
pub number_of_count : (z : ℤ) (count n : ℕ) → up z + 4_371_953 ≡ down z + count → count ≡ 4346384 + n → z +ℤ pos 25569 ≡ pos n
number_of_count z count n e is = omega (arith, signed_arith, e, is)

-- a day that so many days lie before has its number
numbered_of : (d : CivilDay) (n : ℕ) → IsCountedTo d n → 1 ≤ n → n ≤ last_day → IsDay d.year d.month d.day n
numbered_of d n h low high =
    record {
      there = day-from_parts d.year d.month d.day h.first h.last h.some h.few;
      number = sym (from_epoch d.year d.month d.day) ∙ number_of_count (days_from_civil (pos d.year) d.month d.day) (day_count (pos d.year) d.month d.day) n (days_from_civil-day_count (pos d.year) d.month d.day) h.count;
      first = low;
      last = high;
    }

pub counted_numbered : CountedIsNumbered
counted_numbered n low high = numbered_of (days_after n) n (counted_to n) low high

pub numbered_counted : NumberedIsCounted
numbered_counted year month day n h =
    let d = days_after n in
    let s = same_day d.year d.month d.day year month day n (counted_numbered n h.first h.last) h in
    rw (s.year, s.month, s.day) refl

shown_of : (code text : List ℕ) (n : ℕ) → IsShownDay code n text → text ≡ date_text code (days_after n).year (days_after n).month (days_after n).day
shown_of code text n h =
    let s = numbered_counted h.year h.month h.day n h.there in
    h.spelled ∙ ap (λ (d : CivilDay). date_text code d.year d.month d.day) (sym s)

pub shown_counted : ShownIsCounted
shown_counted code text n low high =
    let d = days_after n in
    (shown_of code text n, λ e. record { year = d.year; month = d.month; day = d.day; there = counted_numbered n low high; spelled = e })
