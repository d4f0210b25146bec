-- The lines of a dump rebuild the skeleton of the book from each new one.
use Rattle.std.proofs.Common.{◌≡◌, [], ◌∷◌, not, None, codes, refl, sym, ap, subst}
use Rattle.std.proofs.lemmas.Bool.{not-false}
use Rattle.std.specs.Prelude.{is_none}
use Rattle.ic_laws.proofs.keeping.Accepted.{none_holds}
use Rattle.ic_laws.specs.CoreBook.{CoreBook}
use Rattle.ic_laws.specs.Refusal.{InvalidLanguage, InvalidLocale, InvalidTimezone}
use Rattle.ic_tables.specs.Tables.{TableSet, language_of, lists_zone, locale_of}
use Rattle.ic_machine.specs.Book.{Book, Sheet, core_of, notations_in}
use Rattle.ic_machine.specs.Valid.{IsValidBook}
use Rattle.ic_parts.proofs.StartLemmas.{new_book_valid}
use Rattle.ic_parts.proofs.WholeLemmas.{whole_empty}
use Rattle.ic_run.specs.Desk.{start_refusal}
use Rattle.ic_run.specs.Make.{made_setting, made_start}
use Rattle.ic_dump.specs.Lines.{dump_lines, in_english}
use Rattle.ic_dump.specs.Rebuilds.{Rebuilds, RebuildsFrom}
use Rattle.ic_dump.specs.Refused.{cause_of}
use Rattle.ic_dump.specs.Stages.{Fills, HasFewNames, book_started}
use Rattle.ic_dump.proofs.AllStages.{all_stages}
use Rattle.ic_workbooks.proofs.AcceptedWorkbook.{some_there}
use Rattle.ic_laws.proofs.printing.Trees.{none_is as none_there}

pub rebuilds : (book : Book) → IsValidBook book → cause_of (notations_in book) (core_of book) ≡ None → HasFewNames (core_of book) → Rebuilds book.tables (dump_lines (notations_in book) (core_of book)) (core_of book)
rebuilds book valid none few unrefused created plain =
    let tables : TableSet = book.tables in
    let clear = none_holds ((not (lists_zone tables (codes "UTC")), InvalidTimezone) ∷ (is_none (locale_of tables (codes "en")), InvalidLocale) ∷ (is_none (language_of tables (codes "en")), InvalidLanguage) ∷ []) (none_there (start_refusal made_setting tables) unrefused) in
    let start : Book = made_start created tables in
    let started = new_book_valid (codes "workbook") (codes "en") (codes "UTC") (codes "en") created tables (some_there (locale_of tables (codes "en")) clear.1.0) (some_there (language_of tables (codes "en")) clear.1.1.0) (not-false (lists_zone tables (codes "UTC")) clear.0) valid.tables in
    let same : start ≡ book_started book start = ap (λ (s : Sheet). let b : Book = record start { sheets = s ∷ [] } in b) (whole_empty [] 1 (codes "Sheet1")) in
    let all : Fills (book_started book start) (dump_lines (notations_in book) (core_of book)) (in_english (core_of book)) =
    all_stages book start (record { valid = valid; none = none; few = few; tables = refl; locale = refl; language = refl; errors = plain }) (subst IsValidBook same started.whole) in
    subst (λ (b : Book). RebuildsFrom b (dump_lines (notations_in book) (core_of book)) (core_of book)) (sym same)
    (record { accepted = all.accepted; same = record { sheets = ap (λ (c : CoreBook). c.sheets) all.core; definitions = ap (λ (c : CoreBook). c.definitions) all.core } })
