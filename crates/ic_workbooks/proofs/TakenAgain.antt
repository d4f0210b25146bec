-- What is asked of a workbook is all that can refuse it; so what a book gives as records is refused by nothing.
use Rattle.std.proofs.Common.{◌≡◌, ◌∙◌, ℕ, List, [], ◌∷◌, Bool, true, false, not, Option, Some, None, is_none, is_some, refl, sym}
use Rattle.ic_laws.specs.Refusal.{InvalidLanguage, InvalidLocale, InvalidTimezone, first_refusal}
use Rattle.ic_tables.specs.Tables.{TableSet, language_of, lists_zone, locale_of}
use Rattle.ic_tables.specs.declared.language.Language.{Language}
use Rattle.ic_tables.specs.declared.locale.NamedLocale.{NamedLocale}
use Rattle.ic_cells.specs.declared.workbook.Workbook.{Workbook}
use Rattle.ic_tree.proofs.NotationLaws.{knows_language_is, knows_locale_is}
use Rattle.ic_workbooks.specs.Asked.{TellsHandedIn}
use Rattle.ic_parts.specs.Book.{Book, IsValidBook}
use Rattle.ic_workbooks.specs.HandedIn.{MeetsAll, notation_refusal}
use Rattle.ic_workbooks.specs.Workbook.{workbook_of}
use Rattle.ic_parts.specs.declared.error.BookError.{BookError}
use Rattle.ic_parts.specs.declared.error.BookError.TheVariants as errors
use Rattle.ic_workbooks.proofs.HandedInLemmas.{meets_all}

pub only_memory : (w : Workbook) (language : List ℕ) (tables : TableSet) → notation_refusal w language tables ≡ None → MeetsAll w language tables → (e : BookError) → TellsHandedIn w language tables e → e ≡ errors.OutOfMemory
only_memory w language tables free meets errors.OutOfMemory h = refl
only_memory w language tables free meets (errors.BadWorkbook n) h = absurd (h.1.broken (meets h.1.condition))
only_memory w language tables free meets errors.InvalidLocale h = let told : notation_refusal w language tables ≡ Some InvalidLocale = h in cc
only_memory w language tables free meets errors.InvalidTimezone h = let told : notation_refusal w language tables ≡ Some InvalidTimezone = h in cc
only_memory w language tables free meets errors.InvalidLanguage h = let told : notation_refusal w language tables ≡ Some InvalidLanguage = h in cc
only_memory w language tables free meets e h = absurd h

all_there : (locale : Option NamedLocale) (zone : Bool) (language : Option Language) → is_some locale ≡ true → zone ≡ true → is_some language ≡ true
    → first_refusal ((is_none locale, InvalidLocale) ∷ (not zone, InvalidTimezone) ∷ (is_none language, InvalidLanguage) ∷ []) ≡ None
all_there (Some l) true (Some g) a b c = refl
all_there None zone language a b c = cc
all_there (Some l) false language a b c = cc
all_there (Some l) true None a b c = cc

nothing_refused : (book : Book) → IsValidBook book → notation_refusal (workbook_of book) book.language book.tables ≡ None
nothing_refused book valid =
    all_there (locale_of book.tables book.locale) (lists_zone book.tables book.zone) (language_of book.tables book.language)
    (sym (knows_locale_is book.tables book.locale) ∙ valid.whole.locale) valid.whole.zone (sym (knows_language_is book.tables book.language) ∙ valid.whole.language)

pub taken_again : (book : Book) → IsValidBook book → (e : BookError) → TellsHandedIn (workbook_of book) book.language book.tables e → e ≡ errors.OutOfMemory
taken_again book valid e h = only_memory (workbook_of book) book.language book.tables (nothing_refused book valid) (meets_all book valid) e h
