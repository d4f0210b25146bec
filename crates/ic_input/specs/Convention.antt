-- What of a locale tells how numbers and dates are typed and shown there.
use Rattle.std.specs.Prelude.{ℕ, List, [], ◌∷◌, Bool, true, false, ◌&&◌, ◌||◌, ◌==◌, bytes_eq}
use Rattle.ic_laws.specs.Character.{blank, dollar, minus}
use Rattle.ic_laws.specs.Scan.{first_is}
use Rattle.ic_tables.specs.declared.locale.Locale.{Locale}

abbrev pub first_or : ℕ → List ℕ → ℕ
first_or c [] = c
first_or c (d ∷ ds) = d

-- the character between groups of three digits; each locale of tables has one
abbrev pub group_of : Locale → ℕ
group_of l = first_or blank l.numbers.symbols.group

abbrev pub plus : ℕ
plus = 43

abbrev pub slash : ℕ
slash = 47

abbrev pub euro : ℕ
euro = 8364

-- a sign before a number
abbrev pub is_sign : ℕ → Bool
is_sign c = c == plus || c == minus

abbrev pub percent : ℕ
percent = 37

abbrev pub is_nothing : List ℕ → Bool
is_nothing [] = true
is_nothing (c ∷ cs) = false

-- a text is the dollar sign or the euro sign
abbrev pub is_dollar_or_euro : List ℕ → Bool
is_dollar_or_euro [] = false
is_dollar_or_euro (c ∷ cs) = (c == dollar || c == euro) && is_nothing cs

-- the symbols that are read beside a number: the dollar, the euro and the locale's own
abbrev pub is_currency : Locale → List ℕ → Bool
is_currency l symbol = is_dollar_or_euro symbol || bytes_eq l.currency.symbol symbol

-- one of them begins with this character
abbrev pub begins_currency : Locale → ℕ → Bool
begins_currency l c = c == dollar || c == euro || first_is (λ d. d == c) l.currency.symbol

-- the code of the locale's short dates
abbrev pub short_date : Locale → List ℕ
short_date l = l.dates.date_formats.short
