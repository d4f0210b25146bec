-- All stages, one after another: from the new book to the formulas of the book.
use Rattle.std.proofs.Common.{ℕ, List, ◌++◌, sym, ap, subst, ◌∙◌}
use Rattle.ic_laws.specs.CoreBook.{CoreBook}
use Rattle.ic_machine.specs.Book.{Book, core_of, notations_in}
use Rattle.ic_machine.specs.TranslationLaws.{AreAccepted}
use Rattle.ic_machine.specs.Valid.{IsValidBook}
use Rattle.ic_dump.specs.Lines.{body_lines, cell_lines, defining_lines, deleting_lines, dump_lines, in_english, inserting_lines, naming_lines}
use Rattle.ic_dump.specs.Stages.{Fills, IsRebuilt, Leads, book_defined, book_deleted, book_embodied, book_inserted, book_named, book_started}
use Rattle.ic_dump.proofs.BodiesSet.{sets_bodies}
use Rattle.ic_dump.proofs.CellsWritten.{writes_cells}
use Rattle.ic_dump.proofs.DefinitionsMade.{defines}
use Rattle.ic_dump.proofs.PassingGone.{deletes_passing}
use Rattle.ic_dump.proofs.RunLemmas.{accepted_both, run, run_both}
use Rattle.ic_dump.proofs.SheetStages.{inserts_others, names_first}

fills_both : (a b : Book) (core : CoreBook) (xs ys : List (List ℕ)) → Leads a xs b → Fills b ys core → Fills a (xs ++ ys) core
fills_both a b core xs ys first then = record {
  accepted = accepted_both a xs ys first.accepted (subst (λ (x : Book). AreAccepted x ys) (sym first.left) then.accepted);
  core = ap core_of (run_both a xs ys) ∙ ap (λ (x : Book). core_of (run x ys)) first.left ∙ then.core;
}

pub all_stages : (book start : Book) → IsRebuilt book start → IsValidBook (book_started book start) → Fills (book_started book start) (dump_lines (notations_in book) (core_of book)) (in_english (core_of book))
all_stages book start is valid =
    let n = notations_in book in
    let core : CoreBook = core_of book in
    let named : Leads (book_started book start) (naming_lines core) (book_named book start) = names_first book start is valid in
    let inserted : Leads (book_named book start) (inserting_lines core) (book_inserted book start) = inserts_others book start is named.valid in
    let defined : Leads (book_inserted book start) (defining_lines core) (book_defined book start) = defines book start is inserted.valid in
    let embodied : Leads (book_defined book start) (body_lines n core) (book_embodied book start) = sets_bodies book start is defined.valid in
    let deleted : Leads (book_embodied book start) (deleting_lines core) (book_deleted book start) = deletes_passing book start is embodied.valid in
    let cells : Fills (book_deleted book start) (cell_lines n core) (in_english core) = writes_cells book start is deleted.valid in
    let five = fills_both (book_embodied book start) (book_deleted book start) (in_english core) (deleting_lines core) (cell_lines n core) deleted cells in
    let four = fills_both (book_defined book start) (book_embodied book start) (in_english core) (body_lines n core) (deleting_lines core ++ cell_lines n core) embodied five in
    let three = fills_both (book_inserted book start) (book_defined book start) (in_english core) (defining_lines core) (body_lines n core ++ (deleting_lines core ++ cell_lines n core)) defined four in
    let two = fills_both (book_named book start) (book_inserted book start) (in_english core) (inserting_lines core) (defining_lines core ++ (body_lines n core ++ (deleting_lines core ++ cell_lines n core))) inserted three in
    fills_both (book_started book start) (book_named book start) (in_english core) (naming_lines core) (inserting_lines core ++ (defining_lines core ++ (body_lines n core ++ (deleting_lines core ++ cell_lines n core)))) named two
