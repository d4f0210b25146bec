-- The commands on the locale, the language, the zone, and the formats that they give.
use Rattle.std.specs.Prelude.{ℕ, ℤ, pos, ◌*◌, ◌^◌, List, [], ◌∷◌, ◌++◌, flat_map, map, not, ◌==◌, codes, if◌then◌else◌}
use Rattle.ic_laws.specs.Amount.{units_of_one}
use Rattle.ic_laws.specs.Character.{blank, double_quote}
use Rattle.ic_laws.specs.Command as core
use Rattle.ic_laws.specs.CoreStep.{core_step}
use Rattle.ic_tables.specs.Tables.{lists_zone}
use Rattle.ic_tables.specs.declared.locale.Locale.{Locale}
use Rattle.ic_input.specs.Convention.{short_date}
use Rattle.ic_machine.specs.Action.{Action, Asks, ChangesNotation, ChangesSettings, perform}
use Rattle.ic_machine.specs.Book.{Book, Stepped, as_core, core_of, notations_in, unless_refused}
use Rattle.ic_machine.specs.Format.{formatted}
use Rattle.ic_machine.specs.InForce.{by_notation, in_force}
use Rattle.ic_machine.specs.Refusal.{InvalidTimezone}
use Rattle.ic_machine.specs.Reply.{Field, TextField, text_field}
use Rattle.ic_machine.specs.Row.{Row}
use Rattle.ic_machine.specs.Word.{OfText, words_of}

pub data Notation : Type 0 where
  SetLocale : (id : List ℕ) → Notation
  SetLanguage : (id : List ℕ) → Notation
  SetTimezone : (id : List ℕ) → Notation
  GetLocale : Notation
  GetLanguage : Notation
  GetTimezone : Notation
  GetFmtSettings : Notation

abbrev pub notation_rows : List (Row Notation)
notation_rows =
    record { name = codes "set_locale"; words = words_of (OfText ∷ []); command = λ w. SetLocale w.0 }
    ∷ record { name = codes "set_language"; words = words_of (OfText ∷ []); command = λ w. SetLanguage w.0 }
    ∷ record { name = codes "set_timezone"; words = words_of (OfText ∷ []); command = λ w. SetTimezone w.0 }
    ∷ record { name = codes "get_locale"; words = words_of []; command = λ w. GetLocale }
    ∷ record { name = codes "get_language"; words = words_of []; command = λ w. GetLanguage }
    ∷ record { name = codes "get_timezone"; words = words_of []; command = λ w. GetTimezone }
    ∷ record { name = codes "get_fmt_settings"; words = words_of []; command = λ w. GetFmtSettings } ∷ []

unfoldable pub set_locale_step : List ℕ → Book → Stepped Book
set_locale_step id book = as_core (core_step (notations_in book) (core_of book) (core.SetLocale id)) (record book { locale = id })

unfoldable pub set_language_step : List ℕ → Book → Stepped Book
set_language_step id book = as_core (core_step (notations_in book) (core_of book) (core.SetLanguage id)) (record book { language = id })

unfoldable pub set_timezone_step : List ℕ → Book → Stepped Book
set_timezone_step id book = unless_refused ((not (lists_zone book.tables id), InvalidTimezone) ∷ []) (record book { zone = id }) []

unfoldable pub get_locale_step : Book → Stepped Book
get_locale_step book = unless_refused [] book (text_field book.locale)

unfoldable pub get_language_step : Book → Stepped Book
get_language_step book = unless_refused [] book (text_field book.language)

unfoldable pub get_timezone_step : Book → Stepped Book
get_timezone_step book = unless_refused [] book (text_field book.zone)

-- the formats of a locale with an example each ----

-- the sign that stands for a currency's symbol in the formats of a locale, and a blank at which no line breaks
abbrev pub currency_sign : ℕ
currency_sign = 164

abbrev pub firm_blank : ℕ
firm_blank = 160

-- a character of a format of currencies, with the symbol in double quotes for its sign
abbrev pub as_code : List ℕ → ℕ → List ℕ
as_code symbol c = if c == currency_sign then double_quote ∷ (symbol ++ double_quote ∷ []) else c ∷ []

-- a plain space for a no-break space
abbrev pub plain_blank : ℕ → ℕ
plain_blank c = if c == firm_blank then blank else c

-- the format of currencies as a code: the symbol is put in first, so its own firm blanks become plain ones, too
abbrev pub currency_code : Locale → List ℕ
currency_code l = map plain_blank (flat_map (as_code l.currency.symbol) l.numbers.currency_formats.standard)

-- 15 December 2025, and the amount 1234.567
abbrev pub example_day : ℤ
example_day = pos (46006 * units_of_one)

abbrev pub example_amount : ℤ
example_amount = pos (1234567 * 10 ^ 6)

abbrev pub number_format : List ℕ
number_format = codes "#,##0.00"

abbrev pub settings_fields : Locale → List Field
settings_fields l =
    TextField l.currency.iso ∷ TextField (currency_code l) ∷ TextField (short_date l) ∷ TextField (formatted l (short_date l) example_day)
    ∷ TextField l.dates.date_formats.long ∷ TextField (formatted l l.dates.date_formats.long example_day) ∷ TextField number_format
    ∷ TextField (formatted l number_format example_amount) ∷ []

unfoldable pub settings_step : Book → Stepped Book
settings_step book = unless_refused [] book (by_notation [] (λ f. settings_fields f.locale) (in_force book))

abbrev pub notation_action : Notation → Action
notation_action (SetLocale id) = ChangesNotation (set_locale_step id)
notation_action (SetLanguage id) = ChangesNotation (set_language_step id)
notation_action (SetTimezone id) = ChangesSettings (set_timezone_step id)
notation_action GetLocale = Asks get_locale_step
notation_action GetLanguage = Asks get_language_step
notation_action GetTimezone = Asks get_timezone_step
notation_action GetFmtSettings = Asks settings_step

abbrev pub notation_step : Book → Notation → Stepped Book
notation_step book command = perform book (notation_action command)
