-- English is there, and what is written in it.
use Rattle.std.proofs.Common.{◌≡◌, ◌∷◌, ◌∙◌, ap, ℤ, None, codes, false, refl}
use Rattle.std.specs.Prelude.{is_none, is_some, Option, Some, true}
use Rattle.ic_tables.specs.Tables.{IsWellFormed, TableSet, language_of, locale_of}
use Rattle.ic_laws.specs.Refusal.{Refusal}
use Rattle.ic_laws.specs.Character.{equals}
use Rattle.ic_laws.specs.CoreBook.{CoreBook}
use Rattle.ic_laws.specs.FormulaReading.{shown_formula}
use Rattle.ic_laws.specs.declared.tree.Formula.{Formula}
use Rattle.ic_parts.proofs.WholeLemmas.{whole_core}
use Rattle.ic_parts.specs.Book.{Book, IsValidBook, NotationState, core_of, notations_in, whole_of}
use Rattle.ic_dump.specs.English.{IsEnglish}
use Rattle.ic_dump.specs.Lines.{english_formula, in_english}
use Rattle.ic_parts.specs.Refused.{TellsCore}
use Rattle.ic_parts.specs.Translated.{notation_refusal, shown_in}
use Rattle.ic_parts.specs.declared.error.BookError.{BookError}
use Rattle.ic_tables.proofs.Lookups.{is_some-find}
use Rattle.ic_tables.proofs.WellFormed.{has_english}
use Rattle.ic_tables.specs.declared.language.Language.{Language}
use Rattle.ic_tables.specs.declared.locale.NamedLocale.{NamedLocale}

some_there : {A : Type 0} (o : Option A) → is_some o ≡ true → is_none o ≡ false
some_there None h = cc
some_there (Some x) h = refl

-- the tables lack neither the locale nor the language
pub english_is_there : (tables : TableSet) → IsWellFormed tables → notation_refusal (codes "en") (codes "en") tables ≡ None
english_is_there tables h =
    rw (
      some_there (locale_of tables (codes "en")) (is_some-find (λ (l : NamedLocale). l.id) (codes "en") tables.locales ∙ (has_english tables h).1),
      some_there (language_of tables (codes "en")) (is_some-find (λ (l : Language). l.code) (codes "en") tables.languages ∙ (has_english tables h).0),
    ) refl

-- so that the notation is never refused
pub refused_never : (book : Book) → IsValidBook book → (e : BookError) → ((told : Refusal) × TellsCore e (Some told) × (notation_refusal (codes "en") (codes "en") book.tables ≡ Some told)) → ⊥
refused_never book valid e h = cc (h.2, english_is_there book.tables valid.whole.tables)

-- what is shown in a notation that is English is written in English
pub written_english : (book : Book) (target : NotationState) → IsEnglish book target → (row column : ℤ) (f : Formula) → equals ∷ shown_in target (whole_of book) row column f ≡ english_formula (notations_in book) (core_of book) (row, column) f
written_english book target e row column f =
    ap (λ (t : NotationState). equals ∷ shown_in t (whole_of book) row column f) e
    ∙ ap (λ (core : CoreBook). equals ∷ shown_formula (notations_in book) (in_english core) row column f) (whole_core book)
