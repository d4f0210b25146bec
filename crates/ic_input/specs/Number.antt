-- Numbers as they are typed, without their sign: digits plain or in threes, decimals, and a currency at one side or a
-- percent sign.
use Rattle.std.specs.Prelude.{◌≡◌, ℕ, pos, ◌+◌, ◌*◌, ◌-◌, ◌^◌, ◌<◌, ◌≤◌, List, [], ◌∷◌, ◌++◌, Bool, true, false, not, ◌&&◌, ◌||◌, ◌==◌, nat_le, nat_lt, length, Option, Some, None, if◌then◌else◌}
use Rattle.std.specs.Str.{all_ascii_digits}
use Rattle.std.specs.Str.Parse.{digits_value, digits_value_after}
use Rattle.ic_laws.specs.Scan.{is_digit, past_run, run_of}
use Rattle.ic_tables.specs.declared.locale.Locale.{Locale}
use Rattle.ic_input.specs.Code.{CodeParts, is_percent, stands_beside}
use Rattle.ic_input.specs.Convention.{begins_currency, group_of, is_currency, is_nothing}
use Rattle.ic_tables.specs.Formats.{decimal_separator}
use Rattle.ic_input.specs.declared.number.Number.{Number}
use Rattle.ic_input.specs.Group.{in_threes, past_threes, threes}

-- the digits before the separator as they are typed: plain, or in threes where they are more than three
abbrev pub IsWhole : ℕ → Bool → List ℕ → List ℕ → Type 0
IsWhole group false digits text = text ≡ digits
IsWhole group true digits text = (3 < length digits) × (text ≡ in_threes group digits)

-- the separator with the digits after it, if it is typed, and those digits
abbrev pub fraction_text : ℕ → Option (List ℕ) → List ℕ
fraction_text separator None = []
fraction_text separator (Some digits) = separator ∷ digits

abbrev pub fraction_of : Option (List ℕ) → List ℕ
fraction_of None = []
fraction_of (Some digits) = digits

-- how many digits may stand after the separator: a percentage is a hundredth, so it has two fewer
abbrev pub most_decimals : List ℕ → ℕ
most_decimals after = if is_percent after then 7 else 9

-- the units of a number whose last unit stands so many places after the separator
abbrev pub units_of : ℕ → List ℕ → List ℕ → ℕ
units_of places whole fraction = digits_value 10 whole * 10 ^ places + digits_value 10 fraction * 10 ^ (places - length fraction)

-- a plain number needs no code
abbrev pub code_for : Bool → List ℕ → List ℕ → Bool → Option CodeParts
code_for grouped before after decimals =
    if grouped || not (is_nothing before) || not (is_nothing after)
    then Some (record { before = before; after = after; decimals = decimals })
    else None

-- A text is a number: what stands before it, its whole digits, its decimals, and what stands after it.
pub record IsUnsigned (l : Locale) (text : List ℕ) (n : Number) : Type 0 where
  pub before : List ℕ
  pub whole : List ℕ
  pub grouped : Bool
  pub whole_text : List ℕ
  pub fraction : Option (List ℕ)
  pub after : List ℕ
  pub spelled : text ≡ before ++ (whole_text ++ (fraction_text (decimal_separator l) fraction ++ after))
  pub beside : stands_beside (is_currency l) before after ≡ true
  pub whole_digits : all_ascii_digits whole ≡ true
  pub written : IsWhole (group_of l) grouped whole whole_text
  pub fraction_digits : all_ascii_digits (fraction_of fraction) ≡ true
  pub some : 0 < length whole + length (fraction_of fraction)
  pub few : length (fraction_of fraction) ≤ most_decimals after
  pub value : n.amount ≡ pos (units_of (most_decimals after) whole (fraction_of fraction))
  pub small : units_of (most_decimals after) whole (fraction_of fraction) < 10 ^ 27
  pub code : n.code ≡ code_for grouped before after (nat_lt 0 (length (fraction_of fraction)))

-- The same as a function, in one pass: what stands before the first digit or decimal separator, the digits, the groups,
-- the decimals, and what is left.

-- a character that the digits of a number may begin with
abbrev pub begins_digits : ℕ → ℕ → Bool
begins_digits separator c = is_digit c || c == separator

abbrev pub stands_before : ℕ → ℕ → Bool
stands_before separator c = not (begins_digits separator c)

-- a character that a number may begin with: one that its digits may, or the first one of a currency
abbrev pub may_begin : Locale → ℕ → Bool
may_begin l c = begins_digits (decimal_separator l) c || begins_currency l c

-- the digits after a separator at the front, and what stands after them
abbrev pub decimals_at : ℕ → List ℕ → List ℕ
decimals_at separator [] = []
decimals_at separator (c ∷ cs) = if c == separator then run_of is_digit cs else []

abbrev pub past_decimals : ℕ → List ℕ → List ℕ
past_decimals separator [] = []
past_decimals separator (c ∷ cs) = if c == separator then past_run is_digit cs else c ∷ cs

-- the units of digits that write these numbers, and are so many, if there are some, not too many decimals, and they are
-- an amount
abbrev pub units_if : ℕ → ℕ → ℕ → ℕ → ℕ → Option ℕ
units_if places whole whole_count fraction count =
    if nat_lt 0 (whole_count + count) && nat_le count places && nat_lt (whole * 10 ^ places + fraction * 10 ^ (places - count)) (10 ^ 27)
    then Some (whole * 10 ^ places + fraction * 10 ^ (places - count))
    else None

abbrev pub with_code : Option CodeParts → Option ℕ → Option Number
with_code code None = None
with_code code (Some units) = Some (record { amount = pos units; code = code })

-- with what stands around the digits
abbrev pub with_after : Locale → List ℕ → Bool → ℕ → ℕ → ℕ → ℕ → List ℕ → Option Number
with_after l before grouped whole whole_count fraction count after =
    if stands_beside (is_currency l) before after
    then with_code (code_for grouped before after (nat_lt 0 count)) (units_if (most_decimals after) whole whole_count fraction count)
    else None

-- with the decimals and what stands after them
abbrev pub with_decimals : Locale → List ℕ → Bool → ℕ → ℕ → List ℕ → List ℕ → Option Number
with_decimals l before grouped whole whole_count fraction after =
    with_after l before grouped whole whole_count (digits_value 10 fraction) (length fraction) after

-- before groups stand one to three digits
abbrev pub is_first_group : List ℕ → List ℕ → Bool
is_first_group first groups = is_nothing groups || nat_lt 0 (length first) && nat_le (length first) 3

abbrev pub with_groups : Locale → List ℕ → List ℕ → List ℕ → List ℕ → Option Number
with_groups l before first groups rest =
    if is_first_group first groups
    then with_decimals l before (not (is_nothing groups)) (digits_value_after 10 (digits_value 10 first) groups) (length first) (decimals_at (decimal_separator l) rest) (past_decimals (decimal_separator l) rest)
    else None

abbrev pub with_first : Locale → List ℕ → List ℕ → List ℕ → Option Number
with_first l before first rest = with_groups l before first (threes (group_of l) rest) (past_threes (group_of l) rest)

unfoldable pub from_digits : Locale → List ℕ → List ℕ → Option Number
from_digits l before body = with_first l before (run_of is_digit body) (past_run is_digit body)

unfoldable pub unsigned_number : Locale → List ℕ → Option Number
unsigned_number l text = from_digits l (run_of (stands_before (decimal_separator l)) text) (past_run (stands_before (decimal_separator l)) text)
