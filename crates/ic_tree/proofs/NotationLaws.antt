-- The notations of tables that meet their conditions are notations; and which form an id is given.
use Rattle.std.proofs.Common.{◌≡◌, ℕ, zero, suc, ℤ, pos, ◌<◌, ◌+ℤ◌, List, Bool, true, false, not, ◌&&◌, length, bytes_eq, codes, Option, Some, None, IsSome, is_some, option_map, refl, sym, subst, ◌∙◌, ap, arith}
use Rattle.std.specs.Prelude.{int_le}
use Rattle.std.specs.List.{slice_get}
use Rattle.std.proofs.lemmas.Bool.{and_from, and_parts, and_left, and_right}
use Rattle.std.proofs.lemmas.Int.{ints}
use Rattle.std.proofs.lemmas.Option.{slice_get_within}
use Rattle.std.proofs.lemmas.Slice.Eq.{bytes_eq-Decides}
use Rattle.caseless.proofs.Computing.{caseless}
use Rattle.ic_laws.specs.Dialect.{DialectMeaning, IsLawful}
use Rattle.ic_laws.specs.Name.{Agree, agrees, fold, is_variable, is_variable_form}
use Rattle.ic_laws.specs.Notations.{AreNotations, HasFunction, IsShownForm, Notations, english_function, is_cell}
use Rattle.ic_laws.specs.Position.{column_count, is_column, is_inside, is_part_inside, is_part_within, is_place_within, is_row, is_within, place_at, row_count}
use Rattle.ic_laws.specs.Tree.{is_written_sheet}
use Rattle.ic_laws.specs.declared.dialect.WordKind.TheVariants as kinds
use Rattle.ic_laws.specs.declared.reference.Place.{Place}
use Rattle.ic_laws.specs.declared.reference.Place.TheVariants as places
use Rattle.ic_laws.specs.declared.reference.Position.{Position}
use Rattle.ic_laws.specs.declared.reference.Position.TheVariants as at
use Rattle.ic_laws.specs.declared.reference.RefPart.{RefPart}
use Rattle.ic_laws.specs.declared.reference.RefToken.{RefToken}
use Rattle.ic_refs.specs.A1.{is_spellable}
use Rattle.ic_tables.specs.Formats.{decimal_separator, has_separators}
use Rattle.ic_tables.specs.Tables.{HasGoodWords, IsWellFormed, TableSet, language_of, locale_of}
use Rattle.ic_tables.specs.Words.{boolean_words, first_agreeing}
use Rattle.ic_tables.specs.declared.language.Language.{Language}
use Rattle.ic_tables.specs.declared.locale.Locale.{Locale}
use Rattle.ic_tables.specs.declared.locale.NamedLocale.{NamedLocale}
use Rattle.ic_tables.proofs.Lookups.{is_some-find}
use Rattle.ic_tables.proofs.WellFormed.{Stores, english_stores, formats_of_named, good_words, has_english, language_among, numbers_shared}
use Rattle.ic_tables.proofs.WordLemmas.{found_at}
use Rattle.ic_tree.proofs.ShownLemmas.{separators_told}
use Rattle.ic_tree.specs.LanguageWords.{function_of}
use Rattle.ic_tree.specs.Notations.{notations_of, shown_in, stored_in}
use Rattle.ic_tree.specs.Shown.{AreSeparators, SpeaksBeside, list_of, list_separator, shown_meaning}
use Rattle.ic_tree.specs.Stored.{SpeaksWell, stored_meaning}
use Rattle.ic_tree.specs.laws.LanguageLaws.{found_is_word, some_at}
use Rattle.ic_tree.specs.laws.ShownLaws.{separators_of, shown_laws, shown_spells, speaks_beside}
use Rattle.ic_tree.specs.laws.StoredLaws.{speaks_well, stored_laws}
use Rattle.ic_laws.proofs.General.{some_there as there}

-- ---- what is found

-- English, as tables have it
record HasEnglish (tables : TableSet) (e : Language) : Type 0 where
  pub found : language_of tables (codes "en") ≡ Some e
  pub words : HasGoodWords tables e
  pub stores : Stores e

english_there : (tables : TableSet) → IsWellFormed tables → (e : Language) × HasEnglish tables e
english_there tables h =
    let known : is_some (language_of tables (codes "en")) ≡ true = is_some-find (λ l. l.code) (codes "en") tables.languages ∙ (has_english tables h).0 in
    let e = there (language_of tables (codes "en")) known in
    let among = language_among tables (codes "en") e.0 e.1 in
    (e.0, record { found = e.1; words = good_words tables h e.0 among.0; stores = english_stores tables h e.0 among.0 among.1 })

-- ---- a reference that lies in the sheet at a cell is within the limits of the stored form

position_within : (length : ℕ) (p : Position) (origin : ℤ) → (int_le (pos 1) origin && int_le origin (pos length)) ≡ true → (int_le (pos 1) (place_at p origin) && int_le (place_at p origin) (pos length)) ≡ true
    → is_within length p ≡ true
position_within length (at.Abs n) origin h e = e
position_within length (at.Rel k) origin h e =
    let o = and_parts (int_le (pos 1) origin) (int_le origin (pos length)) h in
    let p = and_parts (int_le (pos 1) (origin +ℤ k)) (int_le (origin +ℤ k) (pos length)) e in
    grind (arith, ints, o, p)

part_within : (part : RefPart) (row column : ℤ) → is_cell row column ≡ true → is_part_inside part row column ≡ true → is_part_within part ≡ true
part_within part row column h e =
    let c = and_parts (is_row row) (is_column column) h in
    let p = and_parts (is_row (place_at part.row row)) (is_column (place_at part.column column)) e in
    and_from (is_within row_count part.row) (is_within column_count part.column) (position_within row_count part.row row c.0 p.0) (position_within column_count part.column column c.1 p.1)

pub inside_within : (place : Place) (row column : ℤ) → is_cell row column ≡ true → is_inside place row column ≡ true → is_place_within place ≡ true
inside_within (places.Cell part) row column h e = part_within part row column h e
inside_within (places.Range first last) row column h e =
    let p = and_parts (is_part_inside first row column) (is_part_inside last row column) e in
    and_from (is_part_within first) (is_part_within last) (part_within first row column h p.0) (part_within last row column h p.1)

-- ---- the shown form of a language and a locale of the tables

separators_good : (l : Locale) → has_separators l ≡ true → AreSeparators (list_separator l) (decimal_separator l)
separators_good l h =
    let s = separators_told l h in
    let is_comma : Bool = bytes_eq l.numbers.symbols.decimal (codes ",") in
    subst (λ x. AreSeparators x (decimal_separator l)) s.0 (subst (λ x. AreSeparators (list_of is_comma) x) s.1 (separators_of is_comma))

-- the words of functions of two languages that number as many
same_functions : (a b : Language) → length a.functions.words ≡ length b.functions.words → (number : ℕ) → IsSome (slice_get a.functions.words number) → IsSome (slice_get b.functions.words number)
same_functions a b h number s =
    let found = there (slice_get a.functions.words number) s in
    some_at b.functions.words number (subst (λ n. number < n) h (slice_get_within a.functions.words number found.0 found.1))

-- a reference that the shown form can write
writes : (l english : Language) (list decimal : ℕ) (row column : ℤ) (r : RefToken) → is_cell row column ≡ true → is_inside r.place row column ≡ true → is_written_sheet r.sheet ≡ true
    → (shown_meaning l english list decimal row column).can_spell r ≡ true
writes l english list decimal row column r cell inside sheet = and_from (is_spellable row column r) (is_written_sheet r.sheet) (and_from (is_cell row column) (is_inside r.place row column) cell inside) sheet

-- and one that it reads
reads : (l english : Language) (list decimal : ℕ) (row column : ℤ) → SpeaksBeside l english → (text rest : List ℕ) (r : RefToken) → (shown_meaning l english list decimal row column).read_ref text ≡ Some (r, rest)
    → (is_inside r.place row column ≡ true) × (is_place_within r.place ≡ true) × (is_written_sheet r.sheet ≡ true)
reads l english list decimal row column beside text rest r e =
    let a = and_parts (is_spellable row column r) (is_written_sheet r.sheet) ((shown_spells l english list decimal row column beside).references text rest r e) in
    let b = and_parts (is_cell row column) (is_inside r.place row column) a.0 in
    (b.1, inside_within r.place row column b.0 b.1, a.1)

shown_form : (n : Notations) (l english : Language) (list decimal : ℕ) (row column : ℤ) → n.stored ≡ stored_meaning english → SpeaksBeside l english → AreSeparators list decimal
    → l.functions.let_fn ≡ english.functions.let_fn → l.functions.lambda_fn ≡ english.functions.lambda_fn
    → IsShownForm n (shown_meaning l english list decimal row column) row column
shown_form n l english list decimal row column stored beside separators same_let same_lambda =
    let has : (number : ℕ) → HasFunction n number ≡ IsSome (slice_get english.functions.words number) = λ number. ap (λ d. IsSome (d.word kinds.Function number)) stored in
    let back : (number : ℕ) → IsSome (slice_get l.functions.words number) → HasFunction n number = λ number s. subst (λ T. T) (sym (has number)) (same_functions l english (sym beside.counted) number s) in
    record {
      lawful = shown_laws l english list decimal row column beside separators;
      let_same = same_let ∙ sym (ap (λ d. d.let_fn) stored);
      lambda_same = same_lambda ∙ sym (ap (λ d. d.lambda_fn) stored);
      functions = λ number. (λ s. same_functions english l beside.counted number (subst (λ T. T) (has number) s), back number);
      finds_functions = λ word number e. back number ((shown_spells l english list decimal row column beside).words kinds.Function word number e);
      writes_inside = λ r. writes l english list decimal row column r;
      reads_inside = reads l english list decimal row column beside;
    }

-- that of a language, a locale and English as the tables have them
form_in : (tables : TableSet) → IsWellFormed tables → (n : Notations) (e : Language) → HasEnglish tables e → n.stored ≡ stored_meaning e
    → (locale language : List ℕ) (row column : ℤ) → is_some (locale_of tables locale) ≡ true → is_some (language_of tables language) ≡ true
    → IsShownForm n (shown_in (language_of tables language) (language_of tables (codes "en")) (locale_of tables locale) row column) row column
form_in tables h n e english stored locale language row column known_locale known_language =
    let named = there (locale_of tables locale) known_locale in
    let l = there (language_of tables language) known_language in
    let among = language_among tables language l.0 l.1 in
    let among_english = language_among tables (codes "en") e english.found in
    let numbers = numbers_shared tables h l.0 e among.0 among_english.0 in
    let same_let : l.0.functions.let_fn ≡ e.functions.let_fn = cc in
    let same_lambda : l.0.functions.lambda_fn ≡ e.functions.lambda_fn = cc in
    rw (named.1, l.1, english.found)
    (shown_form n l.0 e (list_separator named.0.locale) (decimal_separator named.0.locale) row column stored
    (speaks_beside tables l.0 e (good_words tables h l.0 among.0) english.words english.found)
    (separators_good named.0.locale (formats_of_named tables h locale named.0 named.1).separators) same_let same_lambda)

-- ---- the stored form

-- the words of English for true and false are no variables
true_folded : agrees (codes "TRUE") (codes "true") ≡ true
unfolding caseless
true_folded = refl

false_folded : agrees (codes "FALSE") (codes "false") ≡ true
unfolding caseless
false_folded = refl

agrees_by : (a b c : List ℕ) → Agree a b → agrees a c ≡ true → agrees b c ≡ true
agrees_by a b c h e = subst (λ t. bytes_eq t (fold c) ≡ true) h e

true_no_variable : (word : List ℕ) → agrees word (codes "true") ≡ true → is_variable word ≡ false
true_no_variable word h =
    and_left (is_variable_form word && not (agrees word (codes "true"))) (not (agrees word (codes "false")))
    (and_right (is_variable_form word) (not (agrees word (codes "true"))) (ap not h))

false_no_variable : (word : List ℕ) → agrees word (codes "false") ≡ true → is_variable word ≡ false
false_no_variable word h = and_right (is_variable_form word && not (agrees word (codes "true"))) (not (agrees word (codes "false"))) (ap not h)

no_variable : (l : Language) → Stores l → (word : List ℕ) (number : ℕ) → first_agreeing (boolean_words l) word ≡ Some number → is_variable word ≡ false
no_variable l s word number e = let f = found_at (boolean_words l) word number e in by_number number f.0 f.1 f.2
  where
    by_number : (number : ℕ) (w : List ℕ) → slice_get (boolean_words l) number ≡ Some w → Agree w word → is_variable word ≡ false
    by_number zero w e h = let same : w ≡ codes "TRUE" = let at : l.booleans.true_word ≡ w = cc in sym at ∙ s.true_word in true_no_variable word (agrees_by (codes "TRUE") word (codes "true") (subst (λ t. Agree t word) same h) true_folded)
    by_number (suc zero) w e h = let same : w ≡ codes "FALSE" = let at : l.booleans.false_word ≡ w = cc in sym at ∙ s.false_word in false_no_variable word (agrees_by (codes "FALSE") word (codes "false") (subst (λ t. Agree t word) same h) false_folded)
    by_number (suc (suc n)) w e h = absurd (cc)

word_at : (words : List (List ℕ)) (word text : List ℕ) (number : ℕ) → slice_get words number ≡ Some text → first_agreeing words word ≡ Some number → agrees word text ≡ true
word_at words word text number at e =
    let f = found_at words word number e in
    let same : f.0 ≡ text = cc in
    (bytes_eq-Decides (fold word) (fold text)).1 (sym f.2 ∙ ap fold same)

-- The notations of tables that meet their conditions.
pub notations_are : (tables : TableSet) → IsWellFormed tables → AreNotations (notations_of tables)
unfolding notations_of
notations_are tables h =
    let english = english_there tables h in
    let e = english.0 in
    let well : SpeaksWell e = speaks_well tables e english.1.words in
    let stored : stored_in (language_of tables (codes "en")) ≡ stored_meaning e = ap stored_in english.1.found in
    record {
      english_locale = is_some-find (λ l. l.id) (codes "en") tables.locales ∙ (has_english tables h).1;
      english_language = is_some-find (λ l. l.code) (codes "en") tables.languages ∙ (has_english tables h).0;
      shown = form_in tables h (notations_of tables) e english.1 stored;
      stored = subst IsLawful (sym stored) (stored_laws e well);
      stored_finds = rw stored (λ word number found. found_is_word e kinds.Function word number found);
      stored_writes = rw stored (λ r place sheet. and_from (is_place_within r.place) (is_written_sheet r.sheet) place sheet);
      stored_booleans = rw stored (no_variable e english.1.stores);
      stored_let = rw stored (λ word found. word_at e.functions.words word (codes "LET") e.functions.let_fn english.1.stores.let_word found);
      stored_lambda = rw stored (λ word found. word_at e.functions.words word (codes "LAMBDA") e.functions.lambda_fn english.1.stores.lambda_word found);
    }

-- ---- which form an id is given, by what look-ups in the tables answer

is_stored : (o : Option Language) (meaning : DialectMeaning) → option_map stored_meaning o ≡ Some meaning → meaning ≡ stored_in o
is_stored None meaning h = absurd (cc)
is_stored (Some e) meaning h = let same : stored_meaning e ≡ meaning = cc in sym same

is_shown : (l : Language) (beside : Option Language) (named : Option NamedLocale) (locale : Locale) (row column : ℤ) (meaning : DialectMeaning) → option_map (λ n. n.locale) named ≡ Some locale
    → option_map (λ e. shown_meaning l e (list_separator locale) (decimal_separator locale) row column) beside ≡ Some meaning → meaning ≡ shown_in (Some l) beside named row column
is_shown l None named locale row column meaning h k = absurd (cc)
is_shown l (Some e) None locale row column meaning h k = absurd (cc)
is_shown l (Some e) (Some named) locale row column meaning h k =
    let same : named.locale ≡ locale = cc in
    let given : shown_meaning l e (list_separator locale) (decimal_separator locale) row column ≡ meaning = cc in
    sym given ∙ ap (λ x. shown_meaning l e (list_separator x) (decimal_separator x) row column) (sym same)

-- what `Stored::new` of tables means
pub stored_notation : (tables : TableSet) (meaning : DialectMeaning) → option_map stored_meaning (language_of tables (codes "en")) ≡ Some meaning → meaning ≡ (notations_of tables).stored
unfolding notations_of
stored_notation tables meaning h = is_stored (language_of tables (codes "en")) meaning h

-- what `Shown::new` of tables means in the cell at a row and a column, for the language and the locale of these ids
pub shown_notation : (tables : TableSet) (locale_id language_id : List ℕ) (locale : Locale) (language : Language) (row column : ℤ) (meaning : DialectMeaning)
    → option_map (λ n. n.locale) (locale_of tables locale_id) ≡ Some locale → language_of tables language_id ≡ Some language
    → option_map (λ e. shown_meaning language e (list_separator locale) (decimal_separator locale) row column) (language_of tables (codes "en")) ≡ Some meaning
    → meaning ≡ (notations_of tables).shown locale_id language_id row column
unfolding notations_of
shown_notation tables locale_id language_id locale language row column meaning found_locale found_language h =
    is_shown language (language_of tables (codes "en")) (locale_of tables locale_id) locale row column meaning found_locale h
    ∙ ap (λ l. shown_in l (language_of tables (codes "en")) (locale_of tables locale_id) row column) (sym found_language)

-- the ids that are known are those that are found
pub knows_language_is : (tables : TableSet) (id : List ℕ) → (notations_of tables).knows_language id ≡ is_some (language_of tables id)
unfolding notations_of
knows_language_is tables id = refl

pub knows_locale_is : (tables : TableSet) (id : List ℕ) → (notations_of tables).knows_locale id ≡ is_some (locale_of tables id)
unfolding notations_of
knows_locale_is tables id = refl

-- the functions that called words mean are those of English
pub english_function_is : (tables : TableSet) (e : Language) → language_of tables (codes "en") ≡ Some e → english_function (notations_of tables) ≡ function_of e
unfolding notations_of function_of
english_function_is tables e found = ap (λ d. λ word. d.find kinds.Function word) (ap stored_in found)
