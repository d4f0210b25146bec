-- Amounts, and the numbers that are written in formulas. An amount is a whole number of units of 10^-9, below 10^27 of
-- them in absolute value.
use Rattle.std.specs.Prelude.{◌≡◌, ◌≢◌, ◌⊎◌, ◌<◌, ◌≤◌, ℕ, zero, suc, ℤ, pos, negsuc, ◌+◌, ◌*◌, ◌-◌, ◌/◌, ◌%◌, ◌^◌, List, [], ◌∷◌, ◌++◌, Bool, true, false, neg_ℤ, ◌&&◌, ◌==◌, nat_lt, nat_le, nat_abs, length, replicate, Option, Some, None, if◌then◌else◌}
use Rattle.std.specs.Fmt.{decimal}
use Rattle.std.specs.Str.{all_ascii_digits}
use Rattle.std.specs.Str.Parse.{digits_value}
use Rattle.ic_laws.specs.Character.{digit_zero, minus}
use Rattle.ic_laws.specs.Scan.{is_digit, run_of, past_run}

-- how many units one has
abbrev pub units_of_one : ℕ
units_of_one = 1000000000

-- so many units are an amount
abbrev pub is_amount : ℤ → Bool
is_amount units = nat_lt (nat_abs units) (10 ^ 27)

-- so many units of a whole part and a fraction, below 0 or not
abbrev pub signed_units : Bool → ℕ → ℕ → ℤ
signed_units true whole fraction = neg_ℤ (pos (whole * units_of_one + fraction))
signed_units false whole fraction = pos (whole * units_of_one + fraction)

-- the digits of a fraction of so many places, up to the last one that isn't zero
unfoldable pub fraction_digits : ℕ → ℕ → List ℕ
fraction_digits zero fraction = []
fraction_digits (suc places) fraction =
    if fraction == 0 then [] else (digit_zero + fraction / 10 ^ places) ∷ fraction_digits places (fraction % 10 ^ places)

-- the text of an amount from 0 on: its whole part, and its fraction after the separator where it has one
abbrev pub unsigned_text : ℕ → ℕ → List ℕ
unsigned_text separator units =
    decimal (units / units_of_one) ++ (if units % units_of_one == 0 then [] else separator ∷ fraction_digits 9 (units % units_of_one))

-- the text of an amount: a minus where it is below 0
abbrev pub amount_text : ℕ → ℤ → List ℕ
amount_text separator (pos units) = unsigned_text separator units
amount_text separator (negsuc n) = minus ∷ unsigned_text separator (suc n)

-- a number of units that is an amount
abbrev pub if_amount : ℕ → Option ℕ
if_amount units = if nat_lt units (10 ^ 27) then Some units else None

-- the units of a number of which so many digits before the separator write the one number and so many after it the
-- other: at most nine are after it
abbrev pub units_by : ℕ → ℕ → ℕ → ℕ → Option ℕ
units_by whole whole_count fraction fraction_count =
    if nat_le fraction_count 9 && nat_lt 0 (whole_count + fraction_count) then if_amount (whole * units_of_one + fraction * 10 ^ (9 - fraction_count)) else None

-- the same with these characters after the separator, which are all digits
abbrev pub units_of : ℕ → ℕ → List ℕ → Option ℕ
units_of whole whole_count fraction =
    if all_ascii_digits fraction then units_by whole whole_count (digits_value 10 fraction) (length fraction) else None

-- the units that a whole text writes: digits with or without a separator and at most nine digits after it, or a
-- separator and one to nine digits
abbrev pub read_units : ℕ → List ℕ → List ℕ → Option ℕ
read_units separator whole [] = units_of (digits_value 10 whole) (length whole) []
read_units separator whole (c ∷ fraction) = if c == separator then units_of (digits_value 10 whole) (length whole) fraction else None

abbrev pub unsigned_amount : ℕ → List ℕ → Option ℕ
unsigned_amount separator text = read_units separator (run_of is_digit text) (past_run is_digit text)

-- A text writes so many units, as a number is written: digits before and after the separator, at least one and at most
-- nine of them after it; where there are none after it, the separator may be left out. Filled up with zeros to nine
-- places after the separator, the digits are those of the units.
pub record WritesUnits (separator : ℕ) (text : List ℕ) (units : ℕ) : Type 0 where
  pub whole : List ℕ
  pub fraction : List ℕ
  pub form : (text ≡ whole ++ separator ∷ fraction) ⊎ ((text ≡ whole) × (fraction ≡ []))
  pub digits : all_ascii_digits (whole ++ fraction) ≡ true
  pub some : whole ++ fraction ≢ []
  pub places : length fraction ≤ 9
  pub number : digits_value 10 (whole ++ fraction ++ replicate (9 - length fraction) digit_zero) ≡ units
  pub amount : units < 10 ^ 27
