-- Locales by their separators, their currency and their formats.
use Rattle.std.specs.Prelude.{ℕ, List, [], ◌∷◌, None, chars}
use Rattle.std.specs.List.{slice_index_or}
use Rattle.ic_tables.specs.WordList.{words_in}
use Rattle.ic_tables.specs.declared.locale.Currency.{Currency}
use Rattle.ic_tables.specs.declared.locale.CurrencyFormats.{CurrencyFormats}
use Rattle.ic_tables.specs.declared.locale.DateFormats.{DateFormats}
use Rattle.ic_tables.specs.declared.locale.Dates.{Dates}
use Rattle.ic_tables.specs.declared.locale.NamedLocale.{NamedLocale}
use Rattle.ic_tables.specs.declared.locale.NumbersProperties.{NumbersProperties}
use Rattle.ic_tables.specs.declared.locale.NumbersSymbols.{NumbersSymbols}
use Rattle.ic_tables.specs.declared.locale_words.LocaleWords.{LocaleWords}
use Rattle.ic_tables.specs.declared.locale_words.SharedSigns.{SharedSigns}
use Rattle.ic_tables.specs.declared.locale_words.TheConstants.{DECIMAL_FORMAT, SIGNS, TIME_SEPARATOR}

-- the signs that all locales share, by their place in the list
unfoldable pub sign : ℕ → List ℕ
sign n = slice_index_or (words_in (chars SIGNS.now)) n []

unfoldable pub shared_signs : SharedSigns
shared_signs = record {
  percent = sign 0;
  plus = sign 1;
  minus = sign 2;
  approximately = sign 3;
  exponential = sign 4;
  superscripting_exponent = sign 5;
  per_mille = sign 6;
  infinity = sign 7;
  nan = sign 8;
}

abbrev pub list_of_signs : SharedSigns → List (List ℕ)
list_of_signs s =
    s.percent ∷ s.plus ∷ s.minus ∷ s.approximately ∷ s.exponential ∷ s.superscripting_exponent ∷ s.per_mille ∷ s.infinity ∷ s.nan ∷ []

-- the separators of a locale, and the signs that all locales share
unfoldable pub symbols : List ℕ → List ℕ → List ℕ → NumbersSymbols
symbols decimal group list = record {
  decimal = decimal;
  group = group;
  list = list;
  percent_sign = sign 0;
  plus_sign = sign 1;
  minus_sign = sign 2;
  approximately_sign = sign 3;
  exponential = sign 4;
  superscripting_exponent = sign 5;
  per_mille = sign 6;
  infinity = sign 7;
  nan = sign 8;
  time_separator = chars TIME_SEPARATOR.now;
}

-- formats of amounts of money in the order of their fields
abbrev pub of_money : List (List ℕ) → CurrencyFormats
of_money formats = record {
  standard = slice_index_or formats 0 [];
  standard_alpha_next_to_number = None;
  standard_no_currency = slice_index_or formats 1 [];
  accounting = slice_index_or formats 2 [];
  accounting_alpha_next_to_number = None;
  accounting_no_currency = slice_index_or formats 3 [];
}

-- one format for every amount of money
unfoldable pub currency_formats : List ℕ → CurrencyFormats
currency_formats format = of_money (format ∷ format ∷ format ∷ format ∷ [])

unfoldable pub numbers : NumbersSymbols → List ℕ → NumbersProperties
numbers signs format = record {
  symbols = signs;
  decimal_formats = record { standard = chars DECIMAL_FORMAT.now };
  currency_formats = currency_formats format;
}

-- four formats by their length, the longest first
abbrev pub in_order : List (List ℕ) → DateFormats
in_order formats = record {
  full = slice_index_or formats 0 [];
  long = slice_index_or formats 1 [];
  medium = slice_index_or formats 2 [];
  short = slice_index_or formats 3 [];
}

-- one format for all lengths but the short one
unfoldable pub formats_by_length : List ℕ → List ℕ → DateFormats
formats_by_length long short = in_order (long ∷ long ∷ long ∷ short ∷ [])

-- no names of days and months, and these formats
abbrev pub dates_of : DateFormats → DateFormats → DateFormats → Dates
dates_of dates times dates_with_times = record {
  day_names = [];
  day_names_short = [];
  months = [];
  months_short = [];
  months_letter = [];
  date_formats = dates;
  time_formats = times;
  date_time_formats = dates_with_times;
}

-- times are written as long dates
unfoldable pub dates : List ℕ → List ℕ → Dates
dates long short = dates_of (formats_by_length long short) (formats_by_length long long) (formats_by_length long long)

-- a currency by its code and its symbol
unfoldable pub currency : List ℕ → List ℕ → Currency
currency iso symbol = record { iso = iso; symbol = symbol }

-- the locale of an id, with its separators of decimals, groups and arguments, the code and the symbol of its currency,
-- and the formats of money, short dates and long dates
abbrev pub locale_with : List ℕ → List ℕ → List ℕ → List ℕ → List ℕ → List ℕ → List ℕ → List ℕ → List ℕ → NamedLocale
locale_with id decimal group list iso symbol money short long = record {
  id = id;
  locale = record { dates = dates long short; numbers = numbers (symbols decimal group list) money; currency = currency iso symbol };
}

unfoldable pub locale_in : LocaleWords → NamedLocale
locale_in w =
    locale_with (chars w.id.now) (chars w.decimal.now) (chars w.group.now) (chars w.list.now) (chars w.iso.now) (chars w.symbol.now)
    (chars w.money.now) (chars w.short_date.now) (chars w.long_date.now)
