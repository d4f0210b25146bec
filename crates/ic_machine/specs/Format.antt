-- How an amount is shown by a format code, as a function; and the date of a day.
use Rattle.std.specs.Prelude.{ℕ, zero, suc, ℤ, pos, negsuc, ◌+◌, ◌-◌, ◌/◌, ◌%◌, List, ◌&&◌, ◌==◌, nat_le, nat_lt, Option, Some, None, if◌then◌else◌}
use Rattle.jiff_core.specs.Calendar.{days_in_month, days_in_year}
use Rattle.ic_laws.specs.Amount.{amount_text, units_of_one}
use Rattle.ic_tables.specs.declared.locale.Locale.{Locale}
use Rattle.ic_input.specs.Code.{CodeParts, is_date_code, number_code}
use Rattle.ic_tables.specs.Formats.{decimal_separator}
use Rattle.ic_input.specs.Date.{date_text, last_day}
use Rattle.ic_input.specs.Formatted.{number_text}

-- the year that so many days after the first of January of a year lie in, among so many years, and how many days of it
-- have passed
abbrev pub year_of : ℕ → ℕ → ℕ → ℕ × ℕ
year_of zero year days = (year, days)
year_of (suc more) year days = if nat_lt days (days_in_year (pos year)) then (year, days) else year_of more (year + 1) (days - days_in_year (pos year))

-- the month of a year, and the day of the month, from 1
abbrev pub month_of : ℕ → ℕ → ℕ → ℕ → ℕ × ℕ
month_of zero year month days = (month, days + 1)
month_of (suc more) year month days =
    if nat_lt days (days_in_month (pos year) month) then (month, days + 1) else month_of more year (month + 1) (days - days_in_month (pos year) month)

-- a year, a month and a day
pub record Date : Type 0 where
  pub year : ℕ
  pub month : ℕ
  pub day : ℕ

abbrev pub date_in : ℕ × ℕ → Date
date_in passed = record { year = passed.0; month = (month_of 12 passed.0 1 passed.1).0; day = (month_of 12 passed.0 1 passed.1).1 }

-- the date of a day number: day 1 is 31 December 1899, 364 days after the first day of that year
unfoldable pub date_of_day : ℕ → Date
date_of_day n = date_in (year_of 8200 1899 (n + 363))

-- the number of the day that an amount is: a whole number from 1 to that of 31 December 9999
abbrev pub whole_day : ℤ → Option ℕ
whole_day (pos units) = if units % units_of_one == 0 && nat_le 1 (units / units_of_one) && nat_le (units / units_of_one) last_day then Some (units / units_of_one) else None
whole_day (negsuc n) = None

abbrev pub dated : List ℕ → Date → List ℕ
dated code date = date_text code date.year date.month date.day

-- by a code of dates, where the amount is a day
abbrev pub shown_as_date : Locale → List ℕ → ℤ → Option ℕ → List ℕ
shown_as_date l code v (Some n) = dated code (date_of_day n)
shown_as_date l code v None = amount_text (decimal_separator l) v

-- by the code of a number; or else by that of a date; otherwise as the amount's text
abbrev pub shown_by : Locale → List ℕ → ℤ → Option CodeParts → List ℕ
shown_by l code v (Some parts) = number_text l parts v
shown_by l code v None = if is_date_code code then shown_as_date l code v (whole_day v) else amount_text (decimal_separator l) v

unfoldable pub formatted : Locale → List ℕ → ℤ → List ℕ
formatted l code v = shown_by l code v (number_code code)
