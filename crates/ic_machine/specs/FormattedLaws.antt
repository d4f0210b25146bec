-- How the machine shows an amount is how the rules show it, by every code; and so are the dates.
use Rattle.std.specs.Prelude.{◌≡◌, ℕ, ℤ, ◌≤◌, List}
use Rattle.ic_tables.specs.declared.locale.Locale.{Locale}
use Rattle.ic_input.specs.Counted.{days_after}
use Rattle.ic_input.specs.Date.{last_day}
use Rattle.ic_input.specs.Formatted.{IsFormatted}
use Rattle.ic_machine.specs.Format.{date_of_day, formatted}

-- what shows an amount by a code by the rules is what the function gives
abbrev pub RuledIsFormatted : Type 0
RuledIsFormatted =
    (l : Locale) (code : List ℕ) (v : ℤ) (text : List ℕ)
    → IsFormatted l code v text → formatted l code v ≡ text

-- and what the function gives shows the amount by the rules
abbrev pub FormattedIsRuled : Type 0
FormattedIsRuled =
    (l : Locale) (code : List ℕ) (v : ℤ) (text : List ℕ)
    → formatted l code v ≡ text → IsFormatted l code v text

-- the date of day n is the day n days after 30 December 1899
abbrev pub DateIsCounted : Type 0
DateIsCounted =
    (n : ℕ) → 1 ≤ n → n ≤ last_day
    → days_after n ≡ record {
      year = (date_of_day n).year;
      month = (date_of_day n).month;
      day = (date_of_day n).day;
    }
