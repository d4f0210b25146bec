-- The formats of a locale: which separators, symbols and dates can be told apart when numbers are read and shown.
use Rattle.std.specs.Prelude.{ℕ, ◌-◌, List, [], ◌∷◌, Bool, true, false, not, ◌&&◌, ◌||◌, ◌==◌, nat_eq, nat_lt, length, codes, bytes_eq, if◌then◌else◌}
use Rattle.std.specs.List.{list_any}
use Rattle.ic_laws.specs.Character.{comma, dot}
use Rattle.ic_laws.specs.Scan.{first_is, is_blank, is_digit, is_letter}
use Rattle.ic_tables.specs.Words.{boolean_words}
use Rattle.ic_tables.specs.declared.language.Language.{Language}
use Rattle.ic_tables.specs.declared.locale.Locale.{Locale}
use Rattle.ic_tables.specs.declared.locale.NumbersSymbols.{NumbersSymbols}

-- arguments are parted by `,` where decimals are by `.`, and by `;` where decimals are by `,`
abbrev pub are_separators : NumbersSymbols → Bool
are_separators s =
    bytes_eq s.list (codes ",") && bytes_eq s.decimal (codes ".") || bytes_eq s.list (codes ";") && bytes_eq s.decimal (codes ",")

unfoldable pub has_separators : Locale → Bool
has_separators l = are_separators l.numbers.symbols

-- the character before decimals: a comma, or a dot, which is the only other one that tables have
abbrev pub decimal_separator : Locale → ℕ
decimal_separator l = if bytes_eq l.numbers.symbols.decimal (codes ",") then comma else dot

-- a character that may part groups of digits: no letter, no digit, no sign of a number and no quote
abbrev pub may_group : ℕ → Bool
may_group c = not (is_letter c) && not (is_digit c) && not (list_any (λ x. c == x) (codes "+-%'\""))

-- a text is this character alone
abbrev pub is_only : ℕ → List ℕ → Bool
is_only c [] = false
is_only c (d ∷ ds) = d == c && nat_eq (length ds) 0

-- groups of digits are parted by one such character, which isn't the decimal separator
abbrev pub parts_groups : List ℕ → List ℕ → Bool
parts_groups decimal [] = false
parts_groups decimal (c ∷ cs) = nat_eq (length cs) 0 && may_group c && not (bytes_eq decimal (c ∷ cs))

unfoldable pub has_group : Locale → Bool
has_group l = parts_groups l.numbers.symbols.decimal l.numbers.symbols.group

-- a character that a symbol may have: no digit, no blank, none of the marks of numbers and formats
abbrev pub may_stand_in_symbol : ℕ → Bool
may_stand_in_symbol c = not (is_digit c) && not (is_blank c) && not (list_any (λ x. c == x) (codes "#,.%\"+-='"))

-- at most so many such characters, none of which is the separator of groups
abbrev pub are_up_to : ℕ → List ℕ → List ℕ → Bool
are_up_to most group [] = true
are_up_to most group (c ∷ cs) = nat_lt 0 most && may_stand_in_symbol c && not (is_only c group) && are_up_to (most - 1) group cs

-- a boolean word of one of these languages begins with this character
abbrev pub begins_boolean : List Language → ℕ → Bool
begins_boolean languages c = list_any (λ l. list_any (first_is (λ d. d == c)) (boolean_words l)) languages

-- the symbol of a currency: one to four characters that can't be taken for a part of a number, and begins no boolean word
abbrev pub is_symbol : List Language → List ℕ → List ℕ → Bool
is_symbol languages group [] = false
is_symbol languages group (c ∷ cs) = not (begins_boolean languages c) && are_up_to 4 group (c ∷ cs)

unfoldable pub has_symbol : List Language → Locale → Bool
has_symbol languages l = is_symbol languages l.numbers.symbols.group l.currency.symbol

-- days are written in one of three ways
abbrev pub is_american_date : List ℕ → Bool
is_american_date code = bytes_eq code (codes "m/d/yyyy")

abbrev pub is_short_date : List ℕ → Bool
is_short_date code = is_american_date code || bytes_eq code (codes "dd/mm/yyyy")

abbrev pub is_date : List ℕ → Bool
is_date code = is_short_date code || bytes_eq code (codes "yyyy-mm-dd")

unfoldable pub has_dates : Locale → Bool
has_dates l = is_short_date l.dates.date_formats.short && is_date l.dates.date_formats.long
