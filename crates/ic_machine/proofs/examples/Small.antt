-- Small tables for examples, with English and Spanish, and a new book.
use Rattle.std.proofs.Common.{ℕ, List, [], ◌∷◌, None, codes}
use Rattle.ic_tables.specs.Tables.{TableSet}
use Rattle.ic_tables.specs.declared.language.Errors.{Errors}
use Rattle.ic_tables.specs.declared.language.FunctionKind.TheVariants as how
use Rattle.ic_tables.specs.declared.language.Functions.{Functions}
use Rattle.ic_tables.specs.declared.language.Language.{Language}
use Rattle.ic_tables.specs.declared.locale.CurrencyFormats.{CurrencyFormats}
use Rattle.ic_tables.specs.declared.locale.DateFormats.{DateFormats}
use Rattle.ic_tables.specs.declared.locale.NamedLocale.{NamedLocale}
use Rattle.ic_tables.specs.declared.locale.NumbersSymbols.{NumbersSymbols}
use Rattle.ic_cells.specs.Style.{default_style}
use Rattle.ic_machine.specs.Book.{Book, empty_sheet}

-- both languages have the same words of errors
abbrev error_words : Errors
error_words = record {
  ref_word = codes "#REF!";
  name = codes "#NAME?";
  value = codes "#VALUE!";
  div = codes "#DIV/0!";
  na = codes "#N/A";
  num = codes "#NUM!";
  nimpl = codes "#N/IMPL!";
  spill = codes "#SPILL!";
  calc = codes "#CALC!";
  circ = codes "#CIRC!";
  error = codes "#ERROR!";
  null = codes "#NULL!";
}

abbrev functions : List (List ℕ) → Functions
functions words = record { words = words; let_fn = 0; lambda_fn = 1; true_fn = 2; false_fn = 3 }

abbrev pub english_words : Language
english_words = record {
  name = codes "English";
  code = codes "en";
  booleans = record { true_word = codes "TRUE"; false_word = codes "FALSE" };
  errors = error_words;
  functions = functions (codes "LET" ∷ codes "LAMBDA" ∷ codes "TRUE" ∷ codes "FALSE" ∷ codes "SUM" ∷ []);
}

abbrev pub spanish_words : Language
spanish_words = record {
  name = codes "Spanish";
  code = codes "es";
  booleans = record { true_word = codes "VERDADERO"; false_word = codes "FALSO" };
  errors = error_words;
  functions = functions (codes "LET" ∷ codes "LAMBDA" ∷ codes "VERDADERO" ∷ codes "FALSO" ∷ codes "SUMA" ∷ []);
}

abbrev dates : List ℕ → DateFormats
dates short = record { full = codes "yyyy-mm-dd"; long = codes "yyyy-mm-dd"; medium = codes "yyyy-mm-dd"; short = short }

abbrev money : List ℕ → CurrencyFormats
money standard = record {
  standard = standard;
  standard_alpha_next_to_number = None;
  standard_no_currency = standard;
  accounting = standard;
  accounting_alpha_next_to_number = None;
  accounting_no_currency = standard;
}

abbrev symbols : List ℕ → List ℕ → List ℕ → NumbersSymbols
symbols decimal group list = record {
  decimal = decimal;
  group = group;
  list = list;
  percent_sign = codes "%";
  plus_sign = codes "+";
  minus_sign = codes "-";
  approximately_sign = codes "~";
  exponential = codes "E";
  superscripting_exponent = codes "x";
  per_mille = [];
  infinity = [];
  nan = codes "NaN";
  time_separator = codes ":";
}

abbrev locale : List ℕ → NumbersSymbols → List ℕ → List ℕ → List ℕ → NamedLocale
locale id signs iso symbol short = record {
  id = id;
  locale = record {
    dates = record { day_names = []; day_names_short = []; months = []; months_short = []; months_letter = []; date_formats = dates short; time_formats = dates short; date_time_formats = dates short };
    numbers = record { symbols = signs; decimal_formats = record { standard = codes "#,##0.00" }; currency_formats = money (164 ∷ codes "#,##0.00") };
    currency = record { iso = iso; symbol = symbol };
  };
}

abbrev pub tables : TableSet
tables = record {
  languages = english_words ∷ spanish_words ∷ [];
  locales = locale (codes "en") (symbols (codes ".") (codes ",") (codes ",")) (codes "USD") (codes "$") (codes "m/d/yyyy")
      ∷ locale (codes "es") (symbols (codes ",") (codes ".") (codes ";")) (codes "EUR") (8364 ∷ []) (codes "dd/mm/yyyy") ∷ [];
  zones = codes "UTC" ∷ [];
  kinds = how.Each ∷ how.Each ∷ how.Each ∷ how.Each ∷ how.Whole ∷ [];
}

-- a new book with one sheet
abbrev pub start : Book
start = record {
  sheets = empty_sheet 1 (codes "Sheet1") ∷ [];
  definitions = [];
  locale = codes "en";
  language = codes "en";
  zone = codes "UTC";
  styles = default_style ∷ [];
  theme = [];
  name = codes "workbook";
  metadata = record { application = []; app_version = []; creator = []; last_modified_by = []; created = []; last_modified = [] };
  tables = tables;
}
