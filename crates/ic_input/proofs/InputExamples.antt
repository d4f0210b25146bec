-- Typed texts and shown amounts, in the locales of the sample tables and any language.
use Rattle.std.specs.Str.{chars}
use Rattle.std.proofs.Common.{◌≡◌, ◌^◌, pos, negsuc, [], false, Some, None, codes, refl}
use Rattle.jiff_core.specs.Calendar.{day_count, days_from_civil, days_of_months, days_of_years}
use Rattle.ic_tables.specs.LocaleWords.{currency, dates, formats_by_length, numbers, symbols}
use Rattle.ic_tables.specs.Sample.{american, european}
use Rattle.ic_tables.specs.declared.language.Language.{Language}
use Rattle.ic_input.specs.Amount.{signed_amount}
use Rattle.ic_input.specs.Code.{number_code}
use Rattle.ic_input.specs.Counted.{days_after, next_day}
use Rattle.ic_input.specs.Date.{day_number, day_of, is_day}
use Rattle.ic_input.specs.Formatted.{nearest, sign_text}
use Rattle.ic_input.specs.Group.{in_threes}
use Rattle.ic_input.specs.Number.{from_digits, unsigned_number}
use Rattle.ic_input.specs.Typed.{as_word, typed}
use Rattle.ic_input.specs.declared.input.Typed.TheVariants as kinds

-- digits in threes
pub seven_digits : in_threes 44 (codes "1234567") ≡ codes "1,234,567"
seven_digits = refl

pub three_digits : in_threes 44 (codes "123") ≡ codes "123"
three_digits = refl

-- `1,234.5` and `-$5` are numbers in English, `$-5`, `1234,567` and ten decimals are none
module _ (language english : Language) where
  pub grouped_number : typed american.locale language english (codes "1,234.5") ≡ kinds.Number (pos 1234500000000) (Some (codes "#,##0.00"))
  unfolding typed unsigned_number from_digits chars numbers symbols dates formats_by_length currency
  grouped_number = refl

  pub minus_dollars : typed american.locale language english (codes "-$5") ≡ kinds.Number (negsuc 4999999999) (Some (codes "$#,##0"))
  unfolding typed unsigned_number from_digits chars numbers symbols dates formats_by_length currency
  minus_dollars = refl

  pub dollars_minus : typed american.locale language english (codes "$-5") ≡ as_word language english (codes "$-5")
  unfolding typed unsigned_number from_digits chars numbers symbols dates formats_by_length currency
  dollars_minus = refl

  pub long_first_group : typed american.locale language english (codes "1234,567") ≡ as_word language english (codes "1234,567")
  unfolding typed unsigned_number from_digits chars numbers symbols dates formats_by_length currency
  long_first_group = refl

  -- a percentage in French
  pub percentage : typed (european (codes "fr") (codes " ")).locale language english (codes "674 120%") ≡ kinds.Number (pos 6741200000000) (Some (codes "#,##0%"))
  unfolding typed unsigned_number from_digits chars numbers symbols dates formats_by_length currency
  percentage = refl

  -- a date in German, and a formula
  pub short_dated : typed (european (codes "de") (codes ".")).locale language english (codes "15/1/2026") ≡ kinds.Number (pos 46037000000000) (Some (codes "dd/mm/yyyy"))
  unfolding typed unsigned_number from_digits chars numbers symbols dates formats_by_length currency day_of day_number days_from_civil day_count days_of_years days_of_months
  short_dated = refl

  pub signed_formula : typed american.locale language english (codes "-A2*2") ≡ kinds.Formula (codes "-A2*2")
  unfolding typed unsigned_number from_digits chars numbers symbols dates formats_by_length currency
  signed_formula = refl

-- the first day, the last, and one that isn't there
pub first_day : day_of 1899 12 31 ≡ Some 1
unfolding day_of day_number days_from_civil day_count days_of_years days_of_months
first_day = refl

pub day_zero : day_of 1899 12 30 ≡ None
unfolding day_of day_number days_from_civil day_count days_of_years days_of_months
day_zero = refl

pub last_of_all : day_of 9999 12 31 ≡ Some 2958465
unfolding day_of day_number days_from_civil day_count days_of_years days_of_months
last_of_all = refl

pub no_leap_day : is_day 2025 2 29 ≡ false
no_leap_day = refl

-- the day after 28 February of a century, of a fourth century, and after 31 December
pub no_leap_century : next_day (record { year = 1900; month = 2; day = 28 }) ≡ record { year = 1900; month = 3; day = 1 }
no_leap_century = refl

pub leap_century : next_day (record { year = 2000; month = 2; day = 28 }) ≡ record { year = 2000; month = 2; day = 29 }
leap_century = refl

pub new_year : days_after 2 ≡ record { year = 1900; month = 1; day = 1 }
unfolding days_after
new_year = refl

-- half is rounded away from zero, and what is rounded to 0 has no minus
pub half_away : nearest (10 ^ 7) 5000000 ≡ 1
half_away = refl

pub below_half : nearest (10 ^ 7) 4999999 ≡ 0
below_half = refl

pub minus_one : sign_text (negsuc 4999999) 1 ≡ codes "-"
minus_one = refl

pub no_minus_zero : sign_text (negsuc 3999999) 0 ≡ []
no_minus_zero = refl

pub dollar_code : number_code (codes "$#,##0") ≡ Some (record { before = codes "$"; after = []; decimals = false })
unfolding number_code
dollar_code = refl

pub two_percents : number_code (codes "#,##0%%") ≡ None
unfolding number_code
two_percents = refl

-- read_amount
pub below_zero : signed_amount 46 (codes "-1.5") ≡ Some (negsuc 1499999999)
below_zero = refl
