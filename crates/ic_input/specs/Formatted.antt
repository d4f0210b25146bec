-- How an amount is shown by a format code.
use Rattle.std.specs.Prelude.{◌≡◌, ℕ, ℤ, pos, negsuc, nat_abs, ◌+◌, ◌*◌, ◌-◌, ◌/◌, ◌%◌, ◌^◌, ◌≤◌, List, [], ◌∷◌, ◌++◌, Bool, true, false, ◌⊎◌, ◌==◌, if◌then◌else◌}
use Rattle.std.specs.Fmt.{decimal}
use Rattle.ic_laws.specs.Amount.{amount_text, units_of_one}
use Rattle.ic_laws.specs.Character.{minus}
use Rattle.ic_tables.specs.declared.locale.Locale.{Locale}
use Rattle.ic_input.specs.Code.{CodeParts, IsNumberCode, is_date_code, is_percent}
use Rattle.ic_input.specs.Convention.{group_of}
use Rattle.ic_tables.specs.Formats.{decimal_separator}
use Rattle.ic_input.specs.Date.{IsShownDay, last_day, two_digits}
use Rattle.ic_input.specs.Group.{in_threes}

-- the number of steps that is nearest, and the greater one where two are as near
abbrev pub nearest : ℕ → ℕ → ℕ
nearest step n = (n + step / 2) / step

-- how many units the last place has that a code shows: whole ones or hundredths, and of a percentage a hundredth of that
abbrev pub step_of : Bool → List ℕ → ℕ
step_of decimals after = 10 ^ (9 - (if decimals then 2 else 0) - (if is_percent after then 2 else 0))

-- the amount in its last places, without a sign
abbrev pub last_places : CodeParts → ℤ → ℕ
last_places c v = nearest (step_of c.decimals c.after) (nat_abs v)

-- a number of last places in digits: groups of three, and two decimals where they are shown
abbrev pub digits_text : ℕ → ℕ → Bool → ℕ → List ℕ
digits_text group separator false places = in_threes group (decimal places)
digits_text group separator true places = in_threes group (decimal (places / 100)) ++ separator ∷ two_digits (places % 100)

-- a minus where the amount is below 0 and isn't rounded to it
abbrev pub sign_text : ℤ → ℕ → List ℕ
sign_text (pos n) places = []
sign_text (negsuc n) places = if places == 0 then [] else minus ∷ []

abbrev pub number_text : Locale → CodeParts → ℤ → List ℕ
number_text l c v =
    sign_text v (last_places c v)
    ++ (c.before ++ (digits_text (group_of l) (decimal_separator l) c.decimals (last_places c v) ++ c.after))

-- the amount is the whole day number n
abbrev pub IsWholeDay : ℤ → ℕ → Type 0
IsWholeDay v n = (v ≡ pos (n * units_of_one)) × (1 ≤ n) × (n ≤ last_day)

-- a text shows an amount by a code of dates
abbrev pub IsDateShown : List ℕ → ℤ → List ℕ → Type 0
IsDateShown code v text = (is_date_code code ≡ true) × ((n : ℕ) × ((IsWholeDay v n) × (IsShownDay code n text)))

-- no date is shown: the code is none of dates, or the amount is no day
abbrev pub IsNoDate : List ℕ → ℤ → Type 0
IsNoDate code v = (is_date_code code ≡ false) ⊎ ((n : ℕ) → ¬ (IsWholeDay v n))

-- A text shows an amount by a code: by that of a number; or else by that of a date, where the amount is a day; and
-- otherwise it is the amount's text.
abbrev pub IsFormatted : Locale → List ℕ → ℤ → List ℕ → Type 0
IsFormatted l code v text =
    ((c : CodeParts) × ((IsNumberCode code c) × (text ≡ number_text l c v)))
    ⊎ (((c : CodeParts) → ¬ (IsNumberCode code c)) × ((IsDateShown code v text) ⊎ ((IsNoDate code v) × (text ≡ amount_text (decimal_separator l) v))))
