-- The tables of all functions meet every condition, computed over their words, and begin with the sample tables.
use Rattle.std.proofs.Common.{◌≡◌, ℕ, List, true, Some, None, length, map, refl, sym, ◌∙◌}
use Rattle.std.specs.List.{list_all}
use Rattle.std.specs.Str.{chars}
use Rattle.caseless.proofs.Computing.{caseless}
use Rattle.ucd_derived.proofs.Computing.{ucd_derived}
use Rattle.ic_tables.specs.Formats.{has_dates, has_group, has_separators, has_symbol}
use Rattle.ic_tables.specs.LanguageWords.{language_in}
use Rattle.ic_tables.specs.LocaleWords.{sign}
use Rattle.ic_tables.specs.LocaleWords as signs
use Rattle.ic_tables.specs.Sample.{english_words, french_words, german_words, italian_words, sample, sample_locales, spanish_words}
use Rattle.ic_tables.specs.Tables.{TableSet, first_failed, has_english_words, has_ids, has_numbers, has_zones, have_boolean_words, have_dates, have_error_words, have_function_words, have_groups, have_separators, have_symbols, tell_booleans, tell_errors}
use Rattle.ic_tables.specs.WordList.{words_in}
use Rattle.ic_tables.specs.Words.{has_boolean_words, has_error_words, has_function_words, has_stored_words, numbers_functions, share_numbers, tells_booleans, tells_errors}
use Rattle.ic_tables.specs.declared.language.FunctionKind.{FunctionKind}
use Rattle.ic_tables.specs.declared.language.Language.{Language}
use Rattle.ic_tables.specs.declared.locale.NamedLocale.{NamedLocale}
use Rattle.ic_functions.specs.All.{all_functions, all_languages, first_functions, with_column}
use Rattle.ic_functions.specs.Rows.{a_to_f_text, all_rows, first_text, g_to_z_text, kinds_in}
use Rattle.ic_tables.proofs.SampleLemmas.{all_alike, functions_alike, functions_apart, errors_alike, errors_apart, all_pass, those_there}

-- 1 to 3
ids : has_ids all_functions ≡ true
unfolding all_functions sample with_column english_words spanish_words french_words german_words italian_words language_in words_in chars
ids = refl

zones : has_zones all_functions ≡ true
unfolding all_functions sample words_in chars
zones = refl

numbers : has_numbers all_functions ≡ true
unfolding all_functions sample with_column english_words spanish_words french_words german_words italian_words language_in words_in chars all_rows first_text a_to_f_text g_to_z_text numbers_functions share_numbers
numbers = refl

-- 4 to 6
stored : has_english_words all_functions.languages ≡ true
unfolding all_functions with_column english_words spanish_words french_words german_words italian_words language_in words_in chars all_rows first_text a_to_f_text g_to_z_text has_stored_words
stored = refl

booleans : have_boolean_words all_functions.languages ≡ true
unfolding all_functions with_column english_words spanish_words french_words german_words italian_words language_in words_in chars has_boolean_words ucd_derived
booleans = refl

booleans_told : tell_booleans all_functions.languages ≡ true
unfolding all_functions with_column english_words spanish_words french_words german_words italian_words language_in words_in chars tells_booleans caseless
booleans_told = refl

functions_computed : list_all functions_apart all_functions.languages ≡ true
unfolding all_functions with_column english_words spanish_words french_words german_words italian_words language_in words_in chars all_rows first_text a_to_f_text g_to_z_text functions_apart caseless ucd_derived
functions_computed = refl

errors_computed : list_all errors_apart all_functions.languages ≡ true
unfolding all_functions with_column english_words spanish_words french_words german_words italian_words language_in words_in chars errors_apart caseless
errors_computed = refl

functions : have_function_words all_functions.languages ≡ true
functions = all_alike functions_apart has_function_words functions_alike all_functions.languages ∙ functions_computed

errors : have_error_words all_functions.languages ≡ true
errors = all_alike errors_apart has_error_words errors_alike all_functions.languages ∙ errors_computed

-- 9
errors_told : tell_errors all_functions.languages ≡ true
unfolding all_functions with_column english_words spanish_words french_words german_words italian_words language_in words_in chars tells_errors caseless
errors_told = refl

-- 10 to 13
separators : have_separators all_functions.locales ≡ true
unfolding all_functions sample words_in chars has_separators sign signs.symbols signs.numbers signs.dates signs.formats_by_length signs.currency
separators = refl

groups : have_groups all_functions.locales ≡ true
unfolding all_functions sample words_in chars has_group sign signs.symbols signs.numbers signs.dates signs.formats_by_length signs.currency ucd_derived
groups = refl

symbols : have_symbols all_functions.languages all_functions.locales ≡ true
unfolding all_functions sample with_column english_words spanish_words french_words german_words italian_words language_in words_in chars has_symbol sign signs.symbols signs.numbers signs.dates signs.formats_by_length signs.currency
symbols = refl

dates : have_dates all_functions.locales ≡ true
unfolding all_functions sample words_in chars has_dates sign signs.symbols signs.numbers signs.dates signs.formats_by_length signs.currency
dates = refl

pub all_well_formed : first_failed all_functions ≡ None
all_well_formed =
    all_pass _ _ _ _ _ _ _ _ _ _ _ _ _ ids zones numbers stored booleans booleans_told functions errors errors_told separators groups symbols dates

-- the front, and how many functions there are
pub begin_with_sample : first_functions 42 all_functions ≡ sample
unfolding all_functions sample with_column english_words spanish_words french_words german_words italian_words language_in words_in chars all_rows first_text a_to_f_text g_to_z_text
begin_with_sample = refl

pub counted : length all_functions.kinds ≡ 497
unfolding all_functions all_rows first_text a_to_f_text g_to_z_text chars
counted = refl

-- tables with these parts are those of all functions
pub are_all : (ls : List Language) (ns : List NamedLocale) (zs : List (List ℕ)) (ks : List FunctionKind)
    → map Some ls ≡ all_languages → ns ≡ sample_locales → zs ≡ sample.zones → ks ≡ kinds_in all_rows
    → let t : TableSet = record { languages = ls; locales = ns; zones = zs; kinds = ks } in t ≡ all_functions
unfolding all_functions sample
are_all ls ns zs ks l n z k = rw (n, z, k, sym (those_there ls all_languages l)) refl
