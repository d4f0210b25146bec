-- The sample tables with all functions in place of the first.
use Rattle.std.specs.Prelude.{ℕ, List, [], ◌∷◌, Option, map, option_map, take}
use Rattle.std.specs.List.{filter_map}
use Rattle.ic_tables.specs.LanguageWords.{numbered}
use Rattle.ic_tables.specs.Sample.{english_words, french_words, german_words, italian_words, sample, spanish_words}
use Rattle.ic_tables.specs.Tables.{TableSet}
use Rattle.ic_tables.specs.declared.language.Functions.{Functions}
use Rattle.ic_tables.specs.declared.language.Language.{Language}
use Rattle.ic_functions.specs.Rows.{all_rows, column, kinds_in}

-- a language with other functions
abbrev pub with_functions : Functions → Language → Language
with_functions functions l = record l { functions = functions }

-- a language with the words at a place of all rows, of which LET, LAMBDA, TRUE and FALSE are the first
unfoldable pub with_column : ℕ → Option Language → Option Language
with_column place l = option_map (with_functions (numbered (column place all_rows))) l

abbrev pub all_languages : List (Option Language)
all_languages =
    with_column 1 english_words ∷ with_column 2 spanish_words ∷ with_column 3 french_words ∷ with_column 4 german_words
    ∷ with_column 5 italian_words ∷ []

-- the sample tables with all functions
unfoldable pub all_functions : TableSet
all_functions = record {
  languages = filter_map (λ l. l) all_languages;
  locales = sample.locales;
  zones = sample.zones;
  kinds = kinds_in all_rows;
}

-- a language with its first functions alone
abbrev pub first_words : ℕ → Language → Language
first_words n l = record l { functions = record l.functions { words = take n l.functions.words } }

-- tables with their first functions alone
abbrev pub first_functions : ℕ → TableSet → TableSet
first_functions n t = record t { languages = map (first_words n) t.languages; kinds = take n t.kinds }
