-- A tree that has no word of a language is shown in the language so that it reads back, English words beside those or not.
use Rattle.std.proofs.Common.{◌≡◌, ℕ, ℤ, List, true, false, Option, Some, None, is_some, option_map, refl, sym, ap, subst, ◌∙◌}
use Rattle.std.specs.Prelude.{IsNone, codes}
use Rattle.ic_laws.specs.Binding.{bound, spelled}
use Rattle.ic_laws.specs.Clash.{clashes_with}
use Rattle.ic_laws.specs.CoreBook.{CoreBook, scene_of}
use Rattle.ic_laws.specs.Dialect.{DialectMeaning}
use Rattle.ic_laws.specs.FormulaReading.{shown_at}
use Rattle.ic_laws.specs.Name.{is_variable}
use Rattle.ic_laws.specs.Notations.{AreNotations, IsShownForm, Notations, english, english_function, is_cell}
use Rattle.ic_laws.specs.ReadAs.{read_as}
use Rattle.ic_laws.specs.Reading.{printed}
use Rattle.ic_laws.specs.Tree.{Bound}
use Rattle.ic_laws.specs.ValidCore.{IsKept, IsValidCore}
use Rattle.ic_laws.specs.declared.dialect.WordKind.TheVariants as kinds
use Rattle.ic_laws.proofs.core.Named.{book_named}
use Rattle.ic_laws.proofs.kept.Clashing.{TellsWords, no_form_words}
use Rattle.ic_laws.proofs.kept.Written.{shown_reads}
use Rattle.ic_refs.specs.Sheet.{or_else}
use Rattle.ic_tables.specs.Tables.{IsWellFormed, TableSet, language_of, locale_of}
use Rattle.ic_tables.specs.Words.{first_agreeing, words_of}
use Rattle.ic_tables.specs.declared.language.Language.{Language}
use Rattle.ic_tables.specs.declared.locale.NamedLocale.{NamedLocale}
use Rattle.ic_tree.proofs.EnglishLemmas.{english_free}
use Rattle.ic_tree.proofs.NotationLaws.{knows_language_is, notations_are}
use Rattle.ic_tree.specs.LanguageWords.{boolean_of, function_of, is_boolean_word, is_function_word}
use Rattle.ic_tree.specs.Notations.{notations_of, shown_in, stored_in}
use Rattle.ic_tables.specs.Formats.{decimal_separator}
use Rattle.ic_tree.specs.Shown.{list_separator, shown_meaning}
use Rattle.ic_tree.specs.Stored.{stored_meaning}
use Rattle.ic_tree.specs.laws.LanguageLaws.{law_finds_agreeing}
use Rattle.ic_laws.proofs.General.{some_there as there}

-- where neither of two is there, the first of them isn't
none_first : (a b : Option ℕ) → is_some a ≡ false → IsNone b → IsNone (or_else a b)
none_first None b h none = none
none_first (Some number) b h none = absurd (cc)

-- a variable is no word of the stored form for true or false
free_stored : (n : Notations) → AreNotations n → (word : List ℕ) → is_variable word ≡ true → IsNone (n.stored.find kinds.Boolean word)
free_stored n notations word good = at (n.stored.find kinds.Boolean word) refl
  where
    at : (found : Option ℕ) → n.stored.find kinds.Boolean word ≡ found → IsNone found
    at None e = refl
    at (Some number) e = let no : is_variable word ≡ false = notations.stored_booleans word number e in absurd (cc)

-- The shown form of a language tells words by those of the language alone: a variable is no English word for true or false,
-- and what is called is no English function already.
pub language_tells : (n : Notations) → AreNotations n → (l e : Language) → n.stored ≡ stored_meaning e → (list decimal : ℕ) (row column : ℤ)
    → TellsWords n (shown_meaning l e list decimal row column) (is_boolean_word l) (is_function_word l)
unfolding function_of boolean_of
language_tells n notations l e stored list decimal row column = record {
  boolean = λ word good none.
      none_first (first_agreeing (words_of l kinds.Boolean) word) (first_agreeing (words_of e kinds.Boolean) word) none
      (subst (λ (d : DialectMeaning). IsNone (d.find kinds.Boolean word)) stored (free_stored n notations word good));
  function = λ word english none.
      none_first (first_agreeing (words_of l kinds.Function) word) (first_agreeing (words_of e kinds.Function) word) none
      (subst (λ (d : DialectMeaning). IsNone (d.find kinds.Function word)) stored english);
  boolean_by_fold = λ a b same. ap is_some (law_finds_agreeing l kinds.Boolean a b same);
  function_by_fold = λ a b same. ap is_some (law_finds_agreeing l kinds.Function a b same);
}

-- the form in a language, English and a locale that are there
pub shown_as : (language beside : Option Language) (locale : Option NamedLocale) (l e : Language) (named : NamedLocale) → language ≡ Some l → beside ≡ Some e → locale ≡ Some named → (row column : ℤ)
    → shown_meaning l e (list_separator named.locale) (decimal_separator named.locale) row column ≡ shown_in language beside locale row column
shown_as language beside locale l e named a b c row column = rw (a, b, c) refl

-- so does the form that tables show a formula in, by the language that they have of this code
tables_tell : (tables : TableSet) → IsWellFormed tables → (locale code : List ℕ) (l : Language) → (notations_of tables).knows_locale locale ≡ true → language_of tables code ≡ Some l
    → (row column : ℤ) → TellsWords (notations_of tables) ((notations_of tables).shown locale code row column) (is_boolean_word l) (is_function_word l)
unfolding notations_of
tables_tell tables h locale code l known found row column =
    let notations : AreNotations (notations_of tables) = notations_are tables h in
    let named = there (locale_of tables locale) known in
    let e = there (language_of tables (codes "en")) notations.english_language in
    let stored : stored_in (language_of tables (codes "en")) ≡ stored_meaning e.0 = ap stored_in e.1 in
    let told = language_tells (notations_of tables) notations l e.0 stored (list_separator named.0.locale) (decimal_separator named.0.locale) row column in
    let shown = shown_as (language_of tables code) (language_of tables (codes "en")) (locale_of tables locale) l e.0 named.0 found e.1 named.1 row column in
    subst (λ d. TellsWords (notations_of tables) d (is_boolean_word l) (is_function_word l)) shown told

-- What is written of a kept tree of a valid book for a cell, in a locale and a language of the tables, reads as the tree's
-- spelling, unless the tree clashes with the language.
pub written_reads_unless_clash : (tables : TableSet) → IsWellFormed tables → (book : CoreBook) → IsValidCore (notations_of tables) book → (locale code : List ℕ) (l : Language) → (notations_of tables).knows_locale locale ≡ true → language_of tables code ≡ Some l
    → (scope : Option ℕ) (row column : ℤ) → is_cell row column ≡ true → (t : Bound) → IsKept (notations_of tables) (scene_of book) scope row column t → clashes_with (is_boolean_word l) (is_function_word l) t ≡ false
    → read_as ((notations_of tables).shown locale code row column) (printed ((notations_of tables).shown locale code row column) (spelled (scene_of book) t)) ≡ Some (spelled (scene_of book) t)
written_reads_unless_clash tables h book valid locale code l known found scope row column cell t kept free =
    let n : Notations = notations_of tables in
    let notations : AreNotations n = notations_are tables h in
    let d : DialectMeaning = n.shown locale code row column in
    let form : IsShownForm n d row column = notations.shown locale code row column known (knows_language_is tables code ∙ ap is_some found) in
    let named = book_named n book valid in
    let tells = tables_tell tables h locale code l known found row column in
    let none = no_form_words n notations (scene_of book) named scope row column d (is_boolean_word l) (is_function_word l) tells t kept free in
    shown_reads n notations (scene_of book) named scope row column d form cell t kept none

-- So what is shown of one in a cell reads as the tree's spelling, unless the tree clashes with the language of the book.
pub shown_reads_unless_clash : (tables : TableSet) → IsWellFormed tables → (book : CoreBook) → IsValidCore (notations_of tables) book → (l : Language) → language_of tables book.language ≡ Some l
    → (scope : Option ℕ) (row column : ℤ) → is_cell row column ≡ true → (t : Bound) → IsKept (notations_of tables) (scene_of book) scope row column t → clashes_with (is_boolean_word l) (is_function_word l) t ≡ false
    → read_as (shown_at (notations_of tables) book row column) (printed (shown_at (notations_of tables) book row column) (spelled (scene_of book) t)) ≡ Some (spelled (scene_of book) t)
shown_reads_unless_clash tables h book valid l found = written_reads_unless_clash tables h book valid book.locale book.language l valid.locale found

-- What is written of one in English reads and binds to it.
pub english_binds : (tables : TableSet) → IsWellFormed tables → (book : CoreBook) → IsValidCore (notations_of tables) book
    → (scope : Option ℕ) (row column : ℤ) → is_cell row column ≡ true → (t : Bound) → IsKept (notations_of tables) (scene_of book) scope row column t
    → option_map (bound (english_function (notations_of tables)) (scene_of book) scope) (read_as ((notations_of tables).shown english english row column) (printed ((notations_of tables).shown english english row column) (spelled (scene_of book) t))) ≡ Some t
english_binds tables h book valid scope row column cell t kept =
    let n : Notations = notations_of tables in
    let notations : AreNotations n = notations_are tables h in
    let e = there (language_of tables english) (sym (knows_language_is tables english) ∙ notations.english_language) in
    let reads = written_reads_unless_clash tables h book valid english english e.0 notations.english_locale e.1 scope row column cell t kept (english_free tables h book valid e.0 e.1 scope row column t kept) in
    ap (option_map (bound (english_function n) (scene_of book) scope)) reads ∙ ap (λ u. Some u) kept.settled
