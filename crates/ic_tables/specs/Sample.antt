-- The tables that the program uses. Their words stand in constants of the sources.
use Rattle.std.specs.Prelude.{ℕ, List, [], ◌∷◌, ◌==◌, Option, chars, codes, map, if◌then◌else◌}
use Rattle.std.specs.List.{filter_map}
use Rattle.ic_tables.specs.LanguageWords.{language_in}
use Rattle.ic_tables.specs.LocaleWords.{locale_with}
use Rattle.ic_tables.specs.Tables.{TableSet}
use Rattle.ic_tables.specs.WordList.{words_in}
use Rattle.ic_tables.specs.declared.language.FunctionKind.{FunctionKind}
use Rattle.ic_tables.specs.declared.language.FunctionKind.TheVariants as kinds
use Rattle.ic_tables.specs.declared.language.Language.{Language}
use Rattle.ic_tables.specs.declared.locale.NamedLocale.{NamedLocale}
use Rattle.ic_tables.specs.declared.sample.TheConstants.{DOLLAR_FORMAT, EURO, EURO_FORMAT, KINDS, ZONES}
use Rattle.ic_tables.specs.declared.sample.english.TheConstants as english
use Rattle.ic_tables.specs.declared.sample.french.TheConstants as french
use Rattle.ic_tables.specs.declared.sample.german.TheConstants as german
use Rattle.ic_tables.specs.declared.sample.italian.TheConstants as italian
use Rattle.ic_tables.specs.declared.sample.spanish.TheConstants as spanish

-- the kind that a letter stands for: W as a whole, D dynamic, and any other cell by cell
abbrev pub kind_of : ℕ → FunctionKind
kind_of letter = if letter == 87 then kinds.Whole else (if letter == 68 then kinds.Dynamic else kinds.Each)

abbrev pub kinds_in : List ℕ → List FunctionKind
kinds_in letters = map kind_of letters

-- the languages by their words
unfoldable pub english_words : Option Language
english_words =
    language_in (chars english.CODE.now) (chars english.NAME.now) (chars english.BOOLEANS.now) (chars english.ERRORS.now) (chars english.FUNCTIONS.now)

unfoldable pub spanish_words : Option Language
spanish_words =
    language_in (chars spanish.CODE.now) (chars spanish.NAME.now) (chars spanish.BOOLEANS.now) (chars spanish.ERRORS.now) (chars spanish.FUNCTIONS.now)

unfoldable pub french_words : Option Language
french_words =
    language_in (chars french.CODE.now) (chars french.NAME.now) (chars french.BOOLEANS.now) (chars french.ERRORS.now) (chars french.FUNCTIONS.now)

unfoldable pub german_words : Option Language
german_words =
    language_in (chars german.CODE.now) (chars german.NAME.now) (chars german.BOOLEANS.now) (chars german.ERRORS.now) (chars german.FUNCTIONS.now)

unfoldable pub italian_words : Option Language
italian_words =
    language_in (chars italian.CODE.now) (chars italian.NAME.now) (chars italian.BOOLEANS.now) (chars italian.ERRORS.now) (chars italian.FUNCTIONS.now)

abbrev pub sample_languages : List (Option Language)
sample_languages = english_words ∷ spanish_words ∷ french_words ∷ german_words ∷ italian_words ∷ []

-- the locale of the United States, and those of the euro by their ids and their separators of groups
abbrev pub american : NamedLocale
american =
    locale_with (codes "en") (codes ".") (codes ",") (codes ",") (codes "USD") (codes "$") (chars DOLLAR_FORMAT.now)
    (codes "m/d/yyyy") (codes "yyyy-mm-dd")

abbrev pub european : List ℕ → List ℕ → NamedLocale
european id group =
    locale_with id (codes ",") group (codes ";") (codes "EUR") (chars EURO.now) (chars EURO_FORMAT.now) (codes "dd/mm/yyyy")
    (codes "yyyy-mm-dd")

abbrev pub sample_locales : List NamedLocale
sample_locales =
    american ∷ european (codes "es") (codes ".") ∷ european (codes "fr") (codes " ") ∷ european (codes "de") (codes ".")
    ∷ european (codes "it") (codes ".") ∷ []

-- five languages and five locales, three time zones and 42 functions
unfoldable pub sample : TableSet
sample = record {
  languages = filter_map (λ l. l) sample_languages;
  locales = sample_locales;
  zones = words_in (chars ZONES.now);
  kinds = kinds_in (chars KINDS.now);
}
