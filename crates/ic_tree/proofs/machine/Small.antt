-- Small tables for examples: English and Spanish with five functions each, and the separators of both.
use Rattle.std.proofs.Common.{◌≡◌, ℕ, ℤ, List, [], ◌∷◌, None, codes, refl}
use Rattle.caseless.proofs.Computing.{caseless}
use Rattle.ucd_derived.proofs.Computing.{ucd_derived}
use Rattle.ic_laws.specs.CoreBook.{CoreBook}
use Rattle.ic_laws.specs.Dialect.{DialectMeaning}
use Rattle.ic_laws.specs.Notations.{AreNotations, Notations}
use Rattle.ic_tables.specs.Formats.{has_dates, has_group, has_separators, has_symbol}
use Rattle.ic_tables.specs.Tables.{IsWellFormed, TableSet}
use Rattle.ic_tables.specs.Words.{has_boolean_words, has_error_words, has_function_words, has_stored_words, numbers_functions, share_numbers, tells_booleans, tells_errors}
use Rattle.ic_tables.specs.declared.language.Errors.{Errors}
use Rattle.ic_tables.specs.declared.language.FunctionKind.TheVariants as how
use Rattle.ic_tables.specs.declared.language.Functions.{Functions}
use Rattle.ic_tables.specs.declared.language.Language.{Language}
use Rattle.ic_tables.specs.declared.locale.CurrencyFormats.{CurrencyFormats}
use Rattle.ic_tables.specs.declared.locale.DateFormats.{DateFormats}
use Rattle.ic_tables.specs.declared.locale.NamedLocale.{NamedLocale}
use Rattle.ic_tables.specs.declared.locale.NumbersSymbols.{NumbersSymbols}
use Rattle.ic_tree.specs.Notations.{notations_of}
use Rattle.ic_tree.specs.Shown.{shown_meaning}
use Rattle.ic_tree.proofs.NotationLaws.{notations_are}

-- both languages have the same words of errors
abbrev errors : Errors
errors = record {
  ref_word = codes "#REF!";
  name = codes "#NAME?";
  value = codes "#VALUE!";
  div = codes "#DIV/0!";
  na = codes "#N/A";
  num = codes "#NUM!";
  nimpl = codes "#N/IMPL!";
  spill = codes "#SPILL!";
  calc = codes "#CALC!";
  circ = codes "#CIRC!";
  error = codes "#ERROR!";
  null = codes "#NULL!";
}

abbrev functions : List (List ℕ) → Functions
functions words = record { words = words; let_fn = 0; lambda_fn = 1; true_fn = 2; false_fn = 3 }

abbrev pub english_words : Language
english_words = record {
  name = codes "English";
  code = codes "en";
  booleans = record { true_word = codes "TRUE"; false_word = codes "FALSE" };
  errors = errors;
  functions = functions (codes "LET" ∷ codes "LAMBDA" ∷ codes "TRUE" ∷ codes "FALSE" ∷ codes "SUM" ∷ []);
}

abbrev pub spanish_words : Language
spanish_words = record {
  name = codes "Spanish";
  code = codes "es";
  booleans = record { true_word = codes "VERDADERO"; false_word = codes "FALSO" };
  errors = errors;
  functions = functions (codes "LET" ∷ codes "LAMBDA" ∷ codes "VERDADERO" ∷ codes "FALSO" ∷ codes "SUMA" ∷ []);
}

-- of a locale only the separators count here
abbrev formats : DateFormats
formats = record { full = codes "yyyy-mm-dd"; long = codes "yyyy-mm-dd"; medium = codes "yyyy-mm-dd"; short = codes "dd/mm/yyyy" }

abbrev money : CurrencyFormats
money = record {
  standard = [];
  standard_alpha_next_to_number = None;
  standard_no_currency = [];
  accounting = [];
  accounting_alpha_next_to_number = None;
  accounting_no_currency = [];
}

abbrev symbols : List ℕ → List ℕ → List ℕ → NumbersSymbols
symbols decimal group list = record {
  decimal = decimal;
  group = group;
  list = list;
  percent_sign = [];
  plus_sign = [];
  minus_sign = [];
  approximately_sign = [];
  exponential = [];
  superscripting_exponent = [];
  per_mille = [];
  infinity = [];
  nan = [];
  time_separator = [];
}

abbrev locale : List ℕ → NumbersSymbols → NamedLocale
locale id signs = record {
  id = id;
  locale = record {
    dates = record { day_names = []; day_names_short = []; months = []; months_short = []; months_letter = []; date_formats = formats; time_formats = formats; date_time_formats = formats };
    numbers = record { symbols = signs; decimal_formats = record { standard = [] }; currency_formats = money };
    currency = record { iso = []; symbol = codes "$" };
  };
}

abbrev pub tables : TableSet
tables = record {
  languages = english_words ∷ spanish_words ∷ [];
  locales = locale (codes "en") (symbols (codes ".") (codes ",") (codes ",")) ∷ locale (codes "es") (symbols (codes ",") (codes ".") (codes ";")) ∷ [];
  zones = [];
  kinds = how.Whole ∷ how.Each ∷ how.Each ∷ how.Each ∷ how.Whole ∷ [];
}

-- they meet the conditions on tables, so what is shown of them is no special case
well_formed : IsWellFormed tables
unfolding caseless ucd_derived has_dates has_group has_separators has_symbol has_boolean_words has_error_words has_function_words has_stored_words numbers_functions share_numbers tells_booleans tells_errors
well_formed = refl

abbrev pub small : Notations
small = notations_of tables

pub small_are : AreNotations small
small_are = notations_are tables well_formed

-- the shown form of each notation
abbrev pub in_english : ℤ → ℤ → DialectMeaning
in_english row column = shown_meaning english_words english_words 44 46 row column

abbrev pub in_spanish : ℤ → ℤ → DialectMeaning
in_spanish row column = shown_meaning spanish_words english_words 59 44 row column

english_shown : (row column : ℤ) → small.shown (codes "en") (codes "en") row column ≡ in_english row column
unfolding notations_of
english_shown row column = refl

spanish_shown : (row column : ℤ) → small.shown (codes "es") (codes "es") row column ≡ in_spanish row column
unfolding notations_of
spanish_shown row column = refl

-- a new book
abbrev pub start : CoreBook
start = record { sheets = record { id = 1; name = codes "Sheet1"; cells = [] } ∷ []; definitions = []; locale = codes "en"; language = codes "en" }
