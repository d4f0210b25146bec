-- The sample tables meet every condition, computed over their words.
use Rattle.std.proofs.Common.{◌≡◌, ℕ, List, [], ◌∷◌, Bool, true, ◌&&◌, Option, Some, None, codes, map, refl, ap, ap₂, sym, ◌∙◌}
use Rattle.std.specs.List.{filter_map, list_all}
use Rattle.std.specs.Str.{chars}
use Rattle.caseless.proofs.Computing.{caseless}
use Rattle.ucd_derived.proofs.Computing.{ucd_derived}
use Rattle.ic_laws.specs.Dialect.{has_error_shape, has_function_shape}
use Rattle.ic_laws.specs.Name.{fold}
use Rattle.ic_tables.specs.Formats.{has_dates, has_group, has_separators, has_symbol}
use Rattle.ic_tables.specs.LanguageWords.{language_in}
use Rattle.ic_tables.specs.LocaleWords.{locale_in, sign}
use Rattle.ic_tables.specs.LocaleWords as signs
use Rattle.ic_tables.specs.Sample.{american, english_words, european, french_words, german_words, italian_words, kinds_in, sample, sample_languages, sample_locales, spanish_words}
use Rattle.ic_tables.specs.Tables.{TableSet, are_different, first_failed, first_false, has_english_words, has_ids, has_numbers, has_zones, have_boolean_words, have_dates, have_error_words, have_function_words, have_groups, have_separators, have_symbols, tell_booleans, tell_errors}
use Rattle.ic_tables.specs.WordList.{words_in}
use Rattle.ic_tables.specs.Words.{error_words, has_boolean_words, has_error_words, has_function_words, has_stored_words, numbers_functions, share_numbers, tells_booleans, tells_errors}
use Rattle.ic_tables.specs.declared.language.FunctionKind.{FunctionKind}
use Rattle.ic_tables.specs.declared.language.Language.{Language}
use Rattle.ic_tables.specs.declared.locale.NamedLocale.{NamedLocale}
use Rattle.ic_tables.specs.declared.locale_words.LocaleWords.{LocaleWords}
use Rattle.ic_tables.specs.declared.sample.TheConstants.{KINDS, ZONES}
use Rattle.ic_tables.proofs.FoldLemmas.{no_two_by_folding}

-- 1 to 3
ids : has_ids sample ≡ true
unfolding sample english_words spanish_words french_words german_words italian_words language_in words_in chars
ids = refl

zones : has_zones sample ≡ true
unfolding sample words_in chars
zones = refl

numbers : has_numbers sample ≡ true
unfolding sample english_words spanish_words french_words german_words italian_words language_in words_in chars numbers_functions share_numbers
numbers = refl

-- 4 to 6
stored : has_english_words sample.languages ≡ true
unfolding sample english_words spanish_words french_words german_words italian_words language_in words_in chars has_stored_words
stored = refl

booleans : have_boolean_words sample.languages ≡ true
unfolding sample english_words spanish_words french_words german_words italian_words language_in words_in chars has_boolean_words ucd_derived
booleans = refl

booleans_told : tell_booleans sample.languages ≡ true
unfolding sample english_words spanish_words french_words german_words italian_words language_in words_in chars tells_booleans caseless
booleans_told = refl

-- 7 and 8, where each word is folded once
pub all_alike : (p q : Language → Bool) → ((l : Language) → q l ≡ p l) → (ls : List Language) → list_all q ls ≡ list_all p ls
all_alike p q e [] = refl
all_alike p q e (l ∷ ls) = ap₂ ◌&&◌ (e l) (all_alike p q e ls)

unfoldable pub functions_apart : Language → Bool
functions_apart l = list_all has_function_shape l.functions.words && are_different (map fold l.functions.words)

unfoldable pub errors_apart : Language → Bool
errors_apart l = list_all has_error_shape (error_words l) && are_different (map fold (error_words l))

pub functions_alike : (l : Language) → has_function_words l ≡ functions_apart l
unfolding has_function_words functions_apart
functions_alike l = ap (λ b. list_all has_function_shape l.functions.words && b) (no_two_by_folding l.functions.words)

pub errors_alike : (l : Language) → has_error_words l ≡ errors_apart l
unfolding has_error_words errors_apart
errors_alike l = ap (λ b. list_all has_error_shape (error_words l) && b) (no_two_by_folding (error_words l))

functions_computed : list_all functions_apart sample.languages ≡ true
unfolding sample english_words spanish_words french_words german_words italian_words language_in words_in chars functions_apart caseless ucd_derived
functions_computed = refl

errors_computed : list_all errors_apart sample.languages ≡ true
unfolding sample english_words spanish_words french_words german_words italian_words language_in words_in chars errors_apart caseless
errors_computed = refl

functions : have_function_words sample.languages ≡ true
functions = all_alike functions_apart has_function_words functions_alike sample.languages ∙ functions_computed

errors : have_error_words sample.languages ≡ true
errors = all_alike errors_apart has_error_words errors_alike sample.languages ∙ errors_computed

-- 9
errors_told : tell_errors sample.languages ≡ true
unfolding sample english_words spanish_words french_words german_words italian_words language_in words_in chars tells_errors caseless
errors_told = refl

-- 10 to 13
separators : have_separators sample.locales ≡ true
unfolding sample words_in chars has_separators sign signs.symbols signs.numbers signs.dates signs.formats_by_length signs.currency
separators = refl

groups : have_groups sample.locales ≡ true
unfolding sample words_in chars has_group sign signs.symbols signs.numbers signs.dates signs.formats_by_length signs.currency ucd_derived
groups = refl

symbols : have_symbols sample.languages sample.locales ≡ true
unfolding sample english_words spanish_words french_words german_words italian_words language_in words_in chars has_symbol sign signs.symbols signs.numbers signs.dates signs.formats_by_length signs.currency
symbols = refl

dates : have_dates sample.locales ≡ true
unfolding sample words_in chars has_dates sign signs.symbols signs.numbers signs.dates signs.formats_by_length signs.currency
dates = refl

pub all_pass : (a b c d e f g h i j k l m : Bool) → a ≡ true → b ≡ true → c ≡ true → d ≡ true → e ≡ true → f ≡ true → g ≡ true → h ≡ true → i ≡ true → j ≡ true → k ≡ true → l ≡ true → m ≡ true
    → first_false 1 (a ∷ b ∷ c ∷ d ∷ e ∷ f ∷ g ∷ h ∷ i ∷ j ∷ k ∷ l ∷ m ∷ []) ≡ None
all_pass a b c d e f g h i j k l m pa pb pc pd pe pf pg ph pi pj pk pl pm = rw (pa, pb, pc, pd, pe, pf, pg, ph, pi, pj, pk, pl, pm) refl

pub sample_passes : first_failed sample ≡ None
sample_passes =
    all_pass _ _ _ _ _ _ _ _ _ _ _ _ _ ids zones numbers stored booleans booleans_told functions errors errors_told separators groups symbols dates

-- what is there is itself
pub those_there : {A : Type 0} (xs : List A) (os : List (Option A)) → map Some xs ≡ os → filter_map (λ o. o) os ≡ xs
those_there xs os e = rw (← e) (somes xs)
  where
    somes : {A : Type 0} (ys : List A) → filter_map (λ o. o) (map Some ys) ≡ ys
    somes [] = refl
    somes (y ∷ ys) = ap (λ zs. y ∷ zs) (somes ys)

-- the locales of the words of the five places are those of the sample
pub five_places : (a b c d e : LocaleWords) → locale_in a ≡ american → locale_in b ≡ european (codes "es") (codes ".") → locale_in c ≡ european (codes "fr") (codes " ")
    → locale_in d ≡ european (codes "de") (codes ".") → locale_in e ≡ european (codes "it") (codes ".") → map locale_in (a ∷ b ∷ c ∷ d ∷ e ∷ []) ≡ sample_locales
five_places a b c d e pa pb pc pd pe = ap₂ ◌∷◌ pa (ap₂ ◌∷◌ pb (ap₂ ◌∷◌ pc (ap₂ ◌∷◌ pd (ap (λ l. l ∷ []) pe))))

-- tables with these parts are the sample
pub is_sample : (ls : List Language) (ns : List NamedLocale) (zs : List (List ℕ)) (ks : List FunctionKind)
    → map Some ls ≡ sample_languages → ns ≡ sample_locales → zs ≡ words_in (chars ZONES.now) → ks ≡ kinds_in (chars KINDS.now)
    → let t : TableSet = record { languages = ls; locales = ns; zones = zs; kinds = ks } in t ≡ sample
unfolding sample
is_sample ls ns zs ks l n z k = rw (n, z, k, sym (those_there ls sample_languages l)) refl

-- so they meet every condition
pub sample_well_formed : (t : TableSet) → t ≡ sample → first_failed t ≡ None
sample_well_formed t e = ap first_failed e ∙ sample_passes
