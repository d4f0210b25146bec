-- What a notation of the tables makes of values and texts, whichever is in force.
use Rattle.std.proofs.Common.{◌≡◌, ℕ, ℤ, List, [], Bool, true, codes, Option, Some, None, refl, ap, ap₂, ◌∙◌}
use Rattle.std.proofs.lemmas.Bool.Decides.{Decides-int_eq}
use Rattle.ic_laws.specs.Amount.{amount_text, is_amount}
use Rattle.ic_laws.specs.Notations.{english}
use Rattle.ic_laws.specs.declared.tree.Error.{Error}
use Rattle.ic_tables.proofs.WellFormed.{formats_of_named}
use Rattle.ic_tables.specs.Formats.{decimal_separator}
use Rattle.ic_tables.specs.Tables.{IsWellFormed, language_of, locale_of}
use Rattle.ic_tables.specs.declared.language.Language.{Language}
use Rattle.ic_tables.specs.declared.locale.NamedLocale.{NamedLocale}
use Rattle.ic_cells.specs.Cell.{value_of}
use Rattle.ic_cells.specs.Value.{boolean_word, error_word, shown_text}
use Rattle.ic_cells.specs.declared.cell.Cell.TheVariants as cells
use Rattle.ic_input.proofs.AgainLemmas.{amount_again}
use Rattle.ic_input.proofs.TypedSteps.{tells_texts}
use Rattle.ic_input.proofs.WordAgain.{booleans_again, errors_again}
use Rattle.ic_input.specs.Again.{AreOfTables}
use Rattle.ic_input.specs.Typed.{typed}
use Rattle.ic_input.specs.declared.input.Typed.{Typed}
use Rattle.ic_input.specs.declared.input.Typed.TheVariants as kinds
use Rattle.ic_machine.specs.Book as machine
use Rattle.ic_machine.specs.InForce.{InForce, all_there, by_notation, in_force, is_number, typed_in}
use Rattle.ic_parts.specs.Book.{NotationState}
use Rattle.ic_parts.specs.Translated.{IsIn, localized_in}
use Rattle.ic_machine.proofs.valid.RetypedLemmas.{boolean_at, error_at}

same_number : (v : ℤ) (t : Typed) → t ≡ kinds.Number v None → is_number v t ≡ true
same_number v t e = ap (is_number v) e ∙ (Decides-int_eq v v).1 refl

module _ (n : NotationState) (named : NamedLocale) (language beside : Language) (locale_is : locale_of n.tables n.locale ≡ Some named) (language_is : language_of n.tables n.language ≡ Some language) (beside_is : language_of n.tables (codes "en") ≡ Some beside)
    (book : machine.Book) (well : IsWellFormed book.tables) (here : IsIn n book)
  where
    locale_here : locale_of book.tables book.locale ≡ Some named
    locale_here = ap₂ locale_of here.tables here.locale ∙ locale_is

    language_here : language_of book.tables book.language ≡ Some language
    language_here = ap₂ language_of here.tables here.language ∙ language_is

    beside_here : language_of book.tables english ≡ Some beside
    beside_here = ap (λ t. language_of t english) here.tables ∙ beside_is

    abbrev f : InForce
    f = record { locale = named.locale; language = language; beside = beside }

    force_is : in_force book ≡ Some f
    force_is =
        ap (λ (o : Option NamedLocale). all_there o (language_of book.tables book.language) (language_of book.tables english)) locale_here
        ∙ ap (λ (o : Option Language). all_there (Some named) o (language_of book.tables english)) language_here
        ∙ ap (λ (o : Option Language). all_there (Some named) (Some language) o) beside_here

    by_force : {A : Type 0} (otherwise : A) (make : InForce → A) → by_notation otherwise make (in_force book) ≡ make f
    by_force otherwise make = ap (by_notation otherwise make) force_is

    of_tables : AreOfTables book.tables f.locale f.language f.beside
    of_tables = record {
      well = well;
      formats = formats_of_named book.tables well book.locale named locale_here;
      code = book.language;
      found = language_here;
      code_beside = english;
      found_beside = beside_here;
    }

    typed_is : (text : List ℕ) → typed_in book text ≡ typed f.locale f.language f.beside text
    typed_is text = by_force (kinds.Text text) (λ (g : InForce). typed g.locale g.language g.beside text)

    -- the word of a boolean or an error value is typed as that
    pub word_of_boolean : (truth : Bool) (text : List ℕ) → text ≡ localized_in book (cells.BooleanCell truth 0) → typed_in book text ≡ kinds.Boolean truth
    word_of_boolean truth text e =
        ap (typed_in book) (e ∙ by_force [] (λ (g : InForce). shown_text (decimal_separator g.locale) g.language (value_of [] g.language (cells.BooleanCell truth 0)))) ∙ typed_is (boolean_word f.language truth)
        ∙ booleans_again book.tables f.locale f.language f.beside truth (boolean_word f.language truth) of_tables (boolean_at f.language truth)

    pub word_of_error : (it : Error) (text : List ℕ) → text ≡ localized_in book (cells.ErrorCell it 0) → typed_in book text ≡ kinds.Error it
    word_of_error it text e =
        ap (typed_in book) (e ∙ by_force [] (λ (g : InForce). shown_text (decimal_separator g.locale) g.language (value_of [] g.language (cells.ErrorCell it 0)))) ∙ typed_is (error_word f.language it)
        ∙ errors_again book.tables f.locale f.language f.beside it (error_word f.language it) of_tables (error_at f.language it)

    -- and the text of an amount as that number
    pub text_of_amount : (v : ℤ) → is_amount v ≡ true → (text : List ℕ) → text ≡ amount_text (decimal_separator named.locale) v → is_number v (typed_in book text) ≡ true
    text_of_amount v h text e =
        same_number v (typed_in book text)
        (ap (typed_in book) e ∙ typed_is (amount_text (decimal_separator f.locale) v) ∙ amount_again f.locale (tells_texts book.tables f.locale of_tables.formats) f.language f.beside v h)
