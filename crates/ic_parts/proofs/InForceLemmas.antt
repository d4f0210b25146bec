-- How formulas are written by a locale and a language of the tables.
use Rattle.std.proofs.Common.{◌≡◌, ℕ, ℤ, List, Some, codes, option_map, subst}
use Rattle.ic_laws.specs.Dialect.{DialectMeaning}
use Rattle.ic_tables.specs.Formats.{decimal_separator}
use Rattle.ic_tables.specs.Tables.{TableSet, language_of, locale_of}
use Rattle.ic_tables.specs.declared.language.Language.{Language}
use Rattle.ic_tables.specs.declared.locale.Locale.{Locale}
use Rattle.ic_tree.proofs.NotationLaws.{shown_notation}
use Rattle.ic_tree.specs.Notations.{notations_of}
use Rattle.ic_tree.specs.Shown.{list_separator, shown_meaning}

-- how formulas are written by a locale and a language of the tables
pub shown_by : (t tables : TableSet) → t ≡ tables → (locale_id language_id : List ℕ) (locale : Locale) (language : Language) (row column : ℤ) (meaning : DialectMeaning) → option_map (λ n. n.locale) (locale_of tables locale_id) ≡ Some locale → language_of tables language_id ≡ Some language
    → option_map (λ e. shown_meaning language e (list_separator locale) (decimal_separator locale) row column) (language_of t (codes "en")) ≡ Some meaning → meaning ≡ (notations_of tables).shown locale_id language_id row column
shown_by t tables same locale_id language_id locale language row column meaning by_locale by_language h =
    shown_notation tables locale_id language_id locale language row column meaning by_locale by_language
    (subst (λ (t : TableSet). option_map (λ e. shown_meaning language e (list_separator locale) (decimal_separator locale) row column) (language_of t (codes "en")) ≡ Some meaning) same h)
