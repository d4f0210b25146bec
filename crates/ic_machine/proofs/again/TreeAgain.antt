-- What is written of a tree in another notation, as the body of a definition, fits that notation and reads there.
use Rattle.std.proofs.Common.{◌≡◌, ℕ, pos, [], true, false, Option, Some, reverse, refl, sym, ap, ◌∙◌}
use Rattle.ic_laws.specs.Binding.{spelled}
use Rattle.ic_laws.specs.Clash.{clashes_with}
use Rattle.ic_laws.specs.Dialect.{DialectMeaning, error_number, word_text}
use Rattle.ic_laws.specs.Notations.{IsShownForm, english}
use Rattle.ic_laws.specs.ReadAs.{read_as}
use Rattle.ic_laws.specs.Reading.{Fits, printed}
use Rattle.ic_laws.specs.Scan.{first_is}
use Rattle.ic_laws.specs.Tree.{Bound}
use Rattle.ic_laws.specs.ValidCore.{IsKept}
use Rattle.ic_laws.specs.declared.dialect.WordKind.TheVariants as kinds
use Rattle.ic_laws.specs.declared.reference.RefToken.{RefToken}
use Rattle.ic_laws.specs.declared.tree.Error.{Error}
use Rattle.ic_cells.specs.Value.{error_word}
use Rattle.ic_tables.specs.Tables.{TableSet, language_of, locale_of}
use Rattle.ic_tables.specs.declared.language.Language.{Language}
use Rattle.ic_tables.specs.declared.locale.Locale.{Locale}
use Rattle.ic_tree.proofs.ClashLemmas.{written_reads_unless_clash}
use Rattle.ic_tree.proofs.NotationLaws.{knows_language_is, knows_locale_is, notations_are}
use Rattle.ic_tree.specs.LanguageWords.{is_boolean_word, is_function_word}
use Rattle.ic_tree.specs.Notations.{notations_of}
use Rattle.ic_machine.specs.Book.{Book, core_of, notations_in, scene_in}
use Rattle.ic_machine.specs.InForce.{InForce, by_notation, error_in, in_force}
use Rattle.ic_machine.specs.Retyped.{clashes_in}
use Rattle.ic_machine.specs.Translation.{in_notation}
use Rattle.ic_machine.specs.Valid.{IsValidBook}
use Rattle.ic_machine.proofs.again.BodyAgain.{error_written, form_shown, references_end, written_fits}
use Rattle.ic_machine.proofs.as_core.CoreValid.{core_valid}
use Rattle.ic_machine.proofs.valid.RetypedLemmas.{in_force_is}
use Rattle.ic_machine.proofs.again.TextEnds.{is_solid}
use Rattle.ic_laws.proofs.General.{some_there as there}

module _ (left c : Book) (valid : IsValidBook left) (valid_there : IsValidBook c) (tables : left.tables ≡ c.tables) where
  pub known_locale : (notations_of left.tables).knows_locale c.locale ≡ true
  known_locale = ap (λ (t : TableSet). (notations_of t).knows_locale c.locale) tables ∙ valid_there.locale

  pub known_language : (notations_of left.tables).knows_language c.language ≡ true
  known_language = ap (λ (t : TableSet). (notations_of t).knows_language c.language) tables ∙ valid_there.language

  pub language : (l : Language) × (language_of left.tables c.language ≡ Some l)
  language = there (language_of left.tables c.language) (sym (knows_language_is left.tables c.language) ∙ known_language)

  -- the form in which bodies are written there
  abbrev pub form : DialectMeaning
  form = (notations_of left.tables).shown c.locale c.language (pos 1) (pos 1)

  pub form_there : IsShownForm (notations_of left.tables) form (pos 1) (pos 1)
  form_there = form_shown left.tables valid.tables c.locale c.language language.0 known_locale language.1 (pos 1) (pos 1)

  pub references_there : (r : RefToken) → form.can_spell r ≡ true → first_is is_solid (reverse (form.spell_ref r)) ≡ true
  references_there r can = references_end left.tables valid.tables c.locale c.language language.0 known_locale language.1 (pos 1) (pos 1) r can

  -- and what it has in force
  pub force_there : (locale : Locale) × (beside : Language) × (in_force (in_notation c.locale c.language left) ≡ Some (record { locale = locale; language = language.0; beside = beside }))
  force_there =
      let named = there (locale_of left.tables c.locale) (sym (knows_locale_is left.tables c.locale) ∙ known_locale) in
      let e = there (language_of left.tables english) (sym (knows_language_is left.tables english) ∙ (notations_are left.tables valid.tables).english_language) in
      (named.0.locale, e.0, in_force_is (in_notation c.locale c.language left) named.0 language.0 e.0 named.1 language.1 e.1)

  -- the word of an error value that is written there is the word in force
  pub error_there : (e : Error) → word_text form kinds.Error (error_number e) ≡ error_in (in_notation c.locale c.language left) e
  error_there e =
      error_written left.tables valid.tables c.locale c.language language.0 known_locale language.1 (pos 1) (pos 1) e
      ∙ sym (ap (by_notation [] (λ (f : InForce). error_word f.language e)) force_there.2)

  module _ (scope : Option ℕ) (t : Bound) (kept : IsKept (notations_in left) (scene_in left) scope (pos 1) (pos 1) t) (free : clashes_in (in_notation c.locale c.language left) t ≡ false) where
    unclashed : clashes_with (is_boolean_word language.0) (is_function_word language.0) t ≡ false
    unclashed = sym (ap (by_notation true (λ (f : InForce). clashes_with (is_boolean_word f.language) (is_function_word f.language) t)) force_there.2) ∙ free

    pub fits_there : Fits form (spelled (scene_in left) t)
    fits_there = written_fits left.tables valid.tables c.locale c.language language.0 known_locale language.1 (core_of left) (core_valid left valid) scope (pos 1) (pos 1) refl t kept unclashed

    pub reads_there : read_as form (printed form (spelled (scene_in left) t)) ≡ Some (spelled (scene_in left) t)
    reads_there = written_reads_unless_clash left.tables valid.tables (core_of left) (core_valid left valid) c.locale c.language language.0 known_locale language.1 scope (pos 1) (pos 1) refl t kept unclashed
