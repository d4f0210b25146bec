-- The days of the calendar, counted one by one from 30 December 1899.
use Rattle.std.specs.Prelude.{◌≡◌, ◌↔◌, ℕ, zero, suc, pos, ◌+◌, ◌≤◌, List, nat_lt, if◌then◌else◌}
use Rattle.jiff_core.specs.Calendar.{days_in_month}
use Rattle.ic_input.specs.Date.{IsDay, IsShownDay, date_text, last_day}

-- a year, a month and a day
pub record CivilDay : Type 0 where
  pub year : ℕ
  pub month : ℕ
  pub day : ℕ

-- 30 December 1899
abbrev pub day_zero : CivilDay
day_zero = record { year = 1899; month = 12; day = 30 }

-- the day after: the next of the month, else the first of the next month, or of the next year
abbrev pub next_day : CivilDay → CivilDay
next_day d =
    if nat_lt d.day (days_in_month (pos d.year) d.month)
    then record { year = d.year; month = d.month; day = d.day + 1 }
    else (if nat_lt d.month 12
    then record { year = d.year; month = d.month + 1; day = 1 }
    else record { year = d.year + 1; month = 1; day = 1 })

-- the day that lies so many days after 30 December 1899
unfoldable pub days_after : ℕ → CivilDay
days_after zero = day_zero
days_after (suc n) = next_day (days_after n)

-- the day n days after 30 December 1899 has the number n, from the first number to the last
abbrev pub CountedIsNumbered : Type 0
CountedIsNumbered =
    (n : ℕ) → 1 ≤ n → n ≤ last_day
    → IsDay (days_after n).year (days_after n).month (days_after n).day n

-- and a day with the number n is that one
abbrev pub NumberedIsCounted : Type 0
NumberedIsCounted =
    (year month day n : ℕ) → IsDay year month day n
    → days_after n ≡ record { year = year; month = month; day = day }

-- what is shown of day n by a code of dates is the day n days after 30 December 1899, nothing else
abbrev pub ShownIsCounted : Type 0
ShownIsCounted =
    (code text : List ℕ) (n : ℕ) → 1 ≤ n → n ≤ last_day
    → IsShownDay code n text
    ↔ (text ≡ date_text code (days_after n).year (days_after n).month (days_after n).day)
