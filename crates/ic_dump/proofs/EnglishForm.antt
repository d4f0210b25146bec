-- LAMBDA is called so where formulas are written in English.
use Rattle.std.proofs.Common.{◌≡◌, ℕ, ℤ, List, [], true, Option, Some, None, codes, sym, subst, ◌∙◌}
use Rattle.std.proofs.lemmas.Bool.{and_parts}
use Rattle.std.proofs.lemmas.Slice.Eq.{bytes_eq-Decides}
use Rattle.std.specs.List.{slice_get}
use Rattle.std.specs.Prelude.{unwrap_or}
use Rattle.ic_laws.specs.Dialect.{DialectMeaning, word_text}
use Rattle.ic_laws.specs.Notations.{english}
use Rattle.ic_laws.specs.declared.dialect.WordKind.TheVariants as kinds
use Rattle.ic_tables.proofs.WellFormed.{english_words}
use Rattle.ic_tables.specs.Tables.{IsWellFormed, TableSet, language_of, locale_of}
use Rattle.ic_tables.specs.Words.{has_stored_booleans, has_stored_functions, has_stored_words, is_text}
use Rattle.ic_tables.specs.declared.language.Language.{Language}
use Rattle.ic_tree.proofs.ClashLemmas.{shown_as}
use Rattle.ic_tree.proofs.NotationLaws.{knows_language_is, knows_locale_is, notations_are}
use Rattle.ic_tree.specs.Notations.{notations_of}
use Rattle.ic_laws.proofs.General.{some_there as there}

text_is : (o : Option (List ℕ)) (text : List ℕ) → is_text o text ≡ true → unwrap_or o [] ≡ text
text_is None text e = absurd (cc)
text_is (Some word) text e = (bytes_eq-Decides word text).0 e

lambda_word : (l : Language) → has_stored_words l ≡ true → unwrap_or (slice_get l.functions.words l.functions.lambda_fn) [] ≡ codes "LAMBDA"
unfolding has_stored_words
lambda_word l e =
    let functions = (and_parts (has_stored_booleans l.booleans) (has_stored_functions l.functions) e).1 in
    text_is (slice_get l.functions.words l.functions.lambda_fn) (codes "LAMBDA") (and_parts (is_text (slice_get l.functions.words l.functions.let_fn) (codes "LET")) (is_text (slice_get l.functions.words l.functions.lambda_fn) (codes "LAMBDA")) functions).1

pub english_lambda : (tables : TableSet) → IsWellFormed tables → (row column : ℤ)
    → word_text ((notations_of tables).shown english english row column) kinds.Function ((notations_of tables).shown english english row column).lambda_fn ≡ codes "LAMBDA"
unfolding notations_of
english_lambda tables h row column =
    let e = there (language_of tables (codes "en")) (sym (knows_language_is tables (codes "en")) ∙ (notations_are tables h).english_language) in
    let named = there (locale_of tables english) (sym (knows_locale_is tables english) ∙ (notations_are tables h).english_locale) in
    subst (λ (d : DialectMeaning). word_text d kinds.Function d.lambda_fn ≡ codes "LAMBDA")
    (shown_as (language_of tables english) (language_of tables (codes "en")) (locale_of tables english) e.0 e.0 named.0 e.1 e.1 named.1 row column)
    (lambda_word e.0 (english_words tables h e.0 e.1))
