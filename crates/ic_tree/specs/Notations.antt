-- What the machine is told of languages and locales, by tables.
use Rattle.std.specs.Prelude.{ℤ, [], false, Option, Some, None, is_some, option_map, unwrap_or}
use Rattle.ic_laws.specs.Character.{comma, dot}
use Rattle.ic_laws.specs.Dialect.{DialectMeaning}
use Rattle.ic_laws.specs.Notations.{Notations, english}
use Rattle.ic_tables.specs.Tables.{TableSet, language_of, locale_of}
use Rattle.ic_tables.specs.declared.language.Language.{Language}
use Rattle.ic_tables.specs.declared.locale.NamedLocale.{NamedLocale}
use Rattle.ic_tables.specs.Formats.{decimal_separator}
use Rattle.ic_tree.specs.Shown.{list_separator, shown_meaning}
use Rattle.ic_tree.specs.Stored.{stored_meaning}

-- a form without words and without references: what stands for an id that the tables lack; nothing is asked of it
abbrev pub no_form : DialectMeaning
no_form = record {
  list = comma;
  decimal = dot;
  word = λ kind n. None;
  find = λ kind text. None;
  let_fn = 0;
  lambda_fn = 0;
  read_ref = λ text. None;
  can_spell = λ r. false;
  spell_ref = λ r. [];
}

-- the shown form in a language beside English and in a locale, where all three are there
abbrev pub shown_in : Option Language → Option Language → Option NamedLocale → ℤ → ℤ → DialectMeaning
shown_in (Some l) (Some beside) (Some named) row column = shown_meaning l beside (list_separator named.locale) (decimal_separator named.locale) row column
shown_in l beside named row column = no_form

-- the stored form, where English is there
abbrev pub stored_in : Option Language → DialectMeaning
stored_in l = unwrap_or (option_map stored_meaning l) no_form

-- The notations of tables: the ids are those of their locales and languages; a formula is shown by the words of its
-- language, and by English ones, with the separators of its locale; it is stored by the English words.
unfoldable pub notations_of : TableSet → Notations
notations_of tables = record {
  knows_locale = λ id. is_some (locale_of tables id);
  knows_language = λ code. is_some (language_of tables code);
  shown = λ locale language. shown_in (language_of tables language) (language_of tables english) (locale_of tables locale);
  stored = stored_in (language_of tables english);
}

-- how a formula is written in English in the cell at a row and a column, whatever the notation in force
abbrev pub in_english : TableSet → ℤ → ℤ → DialectMeaning
in_english tables row column = (notations_of tables).shown english english row column
