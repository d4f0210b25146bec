-- Dates: their day numbers, how they are typed and how they are shown. Day 1 is 31 December 1899.
use Rattle.std.specs.Prelude.{◌≡◌, ℕ, ℤ, pos, negsuc, ◌+◌, ◌/◌, ◌%◌, ◌-ℤ◌, ◌<◌, ◌≤◌, List, [], ◌∷◌, ◌++◌, Bool, true, false, ◌&&◌, ◌⊎◌, ◌==◌, nat_le, length, codes, bytes_eq, Option, Some, None, if◌then◌else◌}
use Rattle.std.specs.Fmt.{decimal}
use Rattle.std.specs.Str.{all_ascii_digits}
use Rattle.std.specs.Str.Parse.{digits_value}
use Rattle.jiff_core.specs.Calendar.{days_from_civil, days_in_month}
use Rattle.ic_laws.specs.AmountFront.{past_some, some_digits}
use Rattle.ic_laws.specs.Character.{digit_zero, minus}
use Rattle.ic_laws.specs.Scan.{first_is, is_digit}
use Rattle.ic_tables.specs.Formats.{is_american_date}
use Rattle.ic_tables.specs.declared.locale.Locale.{Locale}
use Rattle.ic_input.specs.Convention.{is_nothing, short_date, slash}
use Rattle.ic_input.specs.declared.date.Field.{Field}
use Rattle.ic_input.specs.declared.date.Fields.{Fields}

-- the code of dates as `2026-01-15`
abbrev pub iso_date : List ℕ
iso_date = codes "yyyy-mm-dd"

-- the calendar has this day
abbrev pub is_day : ℕ → ℕ → ℕ → Bool
is_day year month day = nat_le 1 month && nat_le month 12 && nat_le 1 day && nat_le day (days_in_month (pos year) month)

-- how many days after 30 December 1899 it is
unfoldable pub day_number : ℕ → ℕ → ℕ → ℤ
day_number year month day = days_from_civil (pos year) month day -ℤ days_from_civil (pos 1899) 12 30

-- 31 December 9999
abbrev pub last_day : ℕ
last_day = 2958465

-- a day has this number
pub record IsDay (year month day n : ℕ) : Type 0 where
  pub there : is_day year month day ≡ true
  pub number : day_number year month day ≡ pos n
  pub first : 1 ≤ n
  pub last : n ≤ last_day

-- year, month and day in the order of a code, with its mark between them
abbrev pub joined : ℕ → List ℕ → List ℕ → List ℕ → List ℕ
joined mark a b c = a ++ mark ∷ (b ++ mark ∷ c)

abbrev pub laid_out : List ℕ → List ℕ → List ℕ → List ℕ → List ℕ
laid_out code year month day =
    if bytes_eq code iso_date then joined minus year month day
    else (if is_american_date code then joined slash month day year else joined slash day month year)

-- A text is a date: the digits of its year, month and day in the order of the code, four, two and two of them by
-- `yyyy-mm-dd`; by the code of the locale's short dates months and days have one or two.
pub record IsTypedDate (l : Locale) (text : List ℕ) (n : ℕ) (code : List ℕ) : Type 0 where
  pub year : List ℕ
  pub month : List ℕ
  pub day : List ℕ
  pub digits : all_ascii_digits (year ++ (month ++ day)) ≡ true
  pub year_length : length year ≡ 4
  pub form : ((code ≡ iso_date) × (length month ≡ 2) × (length day ≡ 2))
      ⊎ ((code ≡ short_date l) × (1 ≤ length month) × (length month ≤ 2) × (1 ≤ length day) × (length day ≤ 2))
  pub spelled : text ≡ laid_out code year month day
  pub there : IsDay (digits_value 10 year) (digits_value 10 month) (digits_value 10 day) n

-- the same as a function

-- the number that up to so many digits at the front write, and how many they are
abbrev pub field_at : ℕ → List ℕ → Field
field_at most text = record { value = digits_value 10 (some_digits most text); count = length (some_digits most text) }

-- a digit at the front of a text, of which so many more are read, or none
abbrev pub IsDigit : ℕ → ℕ → List ℕ → List ℕ → Type 0
IsDigit left digit text rest = (0 < left) × (digit < 10) × (text ≡ (digit_zero + digit) ∷ rest)

abbrev pub IsNoDigit : ℕ → List ℕ → Type 0
IsNoDigit left text = (left ≡ 0) ⊎ (first_is is_digit text ≡ false)

-- what stands after a mark at the front
abbrev pub past_mark : ℕ → List ℕ → Option (List ℕ)
past_mark mark [] = None
past_mark mark (c ∷ cs) = if c == mark then Some cs else None

-- three fields with a mark between them, of up to so many digits each
abbrev pub third_field : ℕ → Field → Field → Option (List ℕ) → Option Fields
third_field most a b None = None
third_field most a b (Some text) =
    if is_nothing (past_some most text) then Some (record { first = a; second = b; third = field_at most text }) else None

abbrev pub second_field : ℕ → ℕ → ℕ → Field → Option (List ℕ) → Option Fields
second_field mark most last a None = None
second_field mark most last a (Some text) = third_field last a (field_at most text) (past_mark mark (past_some most text))

abbrev pub three_fields : ℕ → ℕ → ℕ → List ℕ → Option Fields
three_fields mark most last text = second_field mark 2 last (field_at most text) (past_mark mark (past_some most text))

-- the number of a day from the first to the last
abbrev pub in_range : ℤ → Option ℕ
in_range (pos n) = if nat_le 1 n && nat_le n last_day then Some n else None
in_range (negsuc n) = None

unfoldable pub day_of : ℕ → ℕ → ℕ → Option ℕ
day_of year month day = if is_day year month day then in_range (day_number year month day) else None

abbrev pub iso_day : Option Fields → Option ℕ
iso_day None = None
iso_day (Some f) =
    if f.first.count == 4 && f.second.count == 2 && f.third.count == 2 then day_of f.first.value f.second.value f.third.value else None

abbrev pub short_day_of : List ℕ → Fields → Option ℕ
short_day_of code f =
    if nat_le 1 f.first.count && nat_le 1 f.second.count && f.third.count == 4
    then (if is_american_date code then day_of f.third.value f.first.value f.second.value else day_of f.third.value f.second.value f.first.value)
    else None

abbrev pub short_day : List ℕ → Option Fields → Option ℕ
short_day code None = None
short_day code (Some f) = short_day_of code f

-- the date that a text is by `yyyy-mm-dd`, and by the code of short dates
abbrev pub iso_number : List ℕ → Option ℕ
iso_number text = iso_day (three_fields minus 4 2 text)

abbrev pub short_number : List ℕ → List ℕ → Option ℕ
short_number code text = short_day code (three_fields slash 2 4 text)

-- How a day is shown.

-- a number below 100 in two digits, and one below 10,000 in four
abbrev pub two_digits : ℕ → List ℕ
two_digits n = (digit_zero + n / 10) ∷ (digit_zero + n % 10) ∷ []

abbrev pub four_digits : ℕ → List ℕ
four_digits n = two_digits (n / 100) ++ two_digits (n % 100)

-- by `m/d/yyyy` months and days have as many digits as they need, otherwise two
abbrev pub date_text : List ℕ → ℕ → ℕ → ℕ → List ℕ
date_text code year month day =
    if bytes_eq code iso_date then joined minus (four_digits year) (two_digits month) (two_digits day)
    else (if is_american_date code then joined slash (decimal month) (decimal day) (four_digits year) else joined slash (two_digits day) (two_digits month) (four_digits year))

-- a text shows day n by the code of dates
pub record IsShownDay (code : List ℕ) (n : ℕ) (text : List ℕ) : Type 0 where
  pub year : ℕ
  pub month : ℕ
  pub day : ℕ
  pub there : IsDay year month day n
  pub spelled : text ≡ date_text code year month day
