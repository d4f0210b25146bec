-- The tables of a workbook, and when they are well-formed.
use Rattle.std.specs.Prelude.{◌≡◌, ℕ, ◌+◌, List, [], ◌∷◌, length, Bool, true, not, ◌&&◌, ◌||◌, Option, Some, None, map, find, codes, bytes_eq, if◌then◌else◌}
use Rattle.std.specs.List.{list_any, list_all}
use Rattle.ic_tables.specs.declared.language.Language.{Language}
use Rattle.ic_tables.specs.declared.language.FunctionKind.{FunctionKind}
use Rattle.ic_tables.specs.declared.locale.Locale.{Locale}
use Rattle.ic_tables.specs.declared.locale.NamedLocale.{NamedLocale}
use Rattle.ic_tables.specs.Formats.{has_dates, has_group, has_separators, has_symbol}
use Rattle.ic_tables.specs.Words.{error_words, has_boolean_words, has_error_words, has_function_words, has_stored_words, numbers_functions, share_numbers, tells_booleans, tells_errors}

-- what a tables value holds, each list in its order
pub record TableSet : Type 0 where
  pub languages : List Language
  pub locales : List NamedLocale
  pub zones : List (List ℕ)
  pub kinds : List FunctionKind

abbrev pub codes_of : TableSet → List (List ℕ)
codes_of tables = map (λ l. l.code) tables.languages

abbrev pub ids_of : TableSet → List (List ℕ)
ids_of tables = map (λ l. l.id) tables.locales

-- a text is among these
abbrev pub has_text : List (List ℕ) → List ℕ → Bool
has_text texts text = list_any (λ t. bytes_eq t text) texts

-- no two of these texts are equal
abbrev pub are_different : List (List ℕ) → Bool
are_different [] = true
are_different (t ∷ ts) = not (has_text ts t) && are_different ts

-- 1: English is there as a language and as a locale, and each id names one of them
abbrev pub has_ids : TableSet → Bool
has_ids tables =
    has_text (codes_of tables) (codes "en") && has_text (ids_of tables) (codes "en") && are_different (codes_of tables)
    && are_different (ids_of tables) && not (has_text (codes_of tables) []) && not (has_text (ids_of tables) [])

-- 2: each zone is listed once
abbrev pub has_zones : TableSet → Bool
has_zones tables = are_different tables.zones

-- the language of a code, and the locale of an id
abbrev pub language_of : TableSet → List ℕ → Option Language
language_of tables code = find (λ l. bytes_eq l.code code) tables.languages

abbrev pub locale_of : TableSet → List ℕ → Option NamedLocale
locale_of tables id = find (λ l. bytes_eq l.id id) tables.locales

-- 3: each word list is as long as the list of kinds, and LET, LAMBDA, TRUE and FALSE have the same four numbers in
-- every language, each below that length
abbrev pub has_numbers : TableSet → Bool
has_numbers tables = list_all (numbers_functions (length tables.kinds)) tables.languages && share_numbers tables.languages

-- English among these languages
abbrev pub english : List Language → Option Language
english languages = find (λ l. bytes_eq l.code (codes "en")) languages

-- 4: English has the words of stored formulas
abbrev pub has_english_words : List Language → Bool
has_english_words languages = list_all (λ l. not (bytes_eq l.code (codes "en")) || has_stored_words l) languages

-- 5: a boolean's word could be no reference
abbrev pub have_boolean_words : List Language → Bool
have_boolean_words languages = list_all has_boolean_words languages

-- 6: the two booleans of a language can be told apart
abbrev pub tell_booleans : List Language → Bool
tell_booleans languages = list_all tells_booleans languages

-- 7: a function's word looks like a name, and no two of a language agree
abbrev pub have_function_words : List Language → Bool
have_function_words languages = list_all has_function_words languages

-- 8: an error's word looks like one, and no two of a language agree
abbrev pub have_error_words : List Language → Bool
have_error_words languages = list_all has_error_words languages

-- the words of the errors of a language, if there is one
abbrev pub error_words_in : Option Language → List (List ℕ)
error_words_in None = []
error_words_in (Some l) = error_words l

-- 9: no error's word begins another of its language or of English
abbrev pub tell_errors : List Language → Bool
tell_errors languages = list_all (tells_errors (error_words_in (english languages))) languages

-- 10: the separators of arguments and of decimals are `,` and `.`, or `;` and `,`
abbrev pub have_separators : List NamedLocale → Bool
have_separators locales = list_all (λ n. has_separators n.locale) locales

-- 11: digits are grouped by a character that can't be taken for another part of a number
abbrev pub have_groups : List NamedLocale → Bool
have_groups locales = list_all (λ n. has_group n.locale) locales

-- 12: a currency's symbol can't be taken for a part of a number or for the front of a boolean
abbrev pub have_symbols : List Language → List NamedLocale → Bool
have_symbols languages locales = list_all (λ n. has_symbol languages n.locale) locales

-- 13: dates are written in one of three ways
abbrev pub have_dates : List NamedLocale → Bool
have_dates locales = list_all (λ n. has_dates n.locale) locales

-- the conditions in their order: on locales, on the words of functions and errors, on all words, and all of them
abbrev pub locale_conditions : List Language → List NamedLocale → List Bool
locale_conditions languages locales = have_separators locales ∷ have_groups locales ∷ have_symbols languages locales ∷ have_dates locales ∷ []

abbrev pub list_conditions : List Language → List NamedLocale → List Bool
list_conditions languages locales =
    have_function_words languages ∷ have_error_words languages ∷ tell_errors languages ∷ locale_conditions languages locales

abbrev pub word_conditions : List Language → List NamedLocale → List Bool
word_conditions languages locales =
    has_english_words languages ∷ have_boolean_words languages ∷ tell_booleans languages ∷ list_conditions languages locales

abbrev pub conditions : TableSet → List Bool
conditions tables = has_ids tables ∷ has_zones tables ∷ has_numbers tables ∷ word_conditions tables.languages tables.locales

-- the number of the first of these tests that fails, where they are numbered from n
abbrev pub first_false : ℕ → List Bool → Option ℕ
first_false n [] = None
first_false n (b ∷ bs) = if b then first_false (n + 1) bs else Some n

-- the number of the first condition that fails
abbrev pub first_failed : TableSet → Option ℕ
first_failed tables = first_false 1 (conditions tables)

-- tables that meet each condition
abbrev pub IsWellFormed : TableSet → Type 0
IsWellFormed tables = first_failed tables ≡ None

-- the list of zones has this name
abbrev pub lists_zone : TableSet → List ℕ → Bool
lists_zone tables zone = has_text tables.zones zone

-- what the conditions say of one of the languages, for whoever reads and shows formulas by its words
pub record HasGoodWords (tables : TableSet) (l : Language) : Type 0 where
  pub numbers : numbers_functions (length tables.kinds) l ≡ true
  pub booleans : has_boolean_words l ≡ true
  pub booleans_told : tells_booleans l ≡ true
  pub functions : has_function_words l ≡ true
  pub errors : has_error_words l ≡ true
  pub errors_told : tells_errors (error_words_in (english tables.languages)) l ≡ true
  pub shared : share_numbers tables.languages ≡ true

-- what they say of one of the locales, for whoever reads and shows numbers and dates by it
pub record HasGoodFormats (tables : TableSet) (l : Locale) : Type 0 where
  pub separators : has_separators l ≡ true
  pub group : has_group l ≡ true
  pub symbol : has_symbol tables.languages l ≡ true
  pub dates : has_dates l ≡ true
