-- What lines leave doesn't hang on the moment when the book was made.
use Rattle.std.proofs.Common.{◌≡◌, ℕ, List, [], ◌∷◌, refl, subst, sym, ap, ◌∙◌}
use Rattle.ic_laws.specs.Lines.{texts_of}
use Rattle.ic_tables.specs.Tables.{TableSet}
use Rattle.ic_cells.specs.declared.workbook.Metadata.{Metadata}
use Rattle.ic_machine.specs.Book.{Book}
use Rattle.ic_machine.specs.Run.{after}
use Rattle.ic_machine.specs.Translation.{left_after}
use Rattle.ic_machine.proofs.same.MetadataFree.{left_same, with_metadata}
use Rattle.ic_parts.specs.Book as held
use Rattle.ic_parts.specs.Book.{metadata_made}
use Rattle.ic_parts.specs.Whole.{whole_of}
use Rattle.ic_run.specs.Core.{whole_machine}
use Rattle.ic_run.specs.Make.{made_start}
use Rattle.ic_run.specs.Prepared.{IsBookAfter, book_after}

pub after_anytime : (m : Metadata) (book : Book) (lines : List (List ℕ)) → after whole_machine (with_metadata m book) lines ≡ with_metadata m (after whole_machine book lines)
after_anytime m book [] = refl
after_anytime m book (line ∷ lines) = ap (λ (b : Book). after whole_machine b lines) (sym (left_same m book line)) ∙ after_anytime m (left_after book line) lines

-- what doesn't look at who made a book, and when, holds whenever it was made
pub anytime : (P : Book → Type 0) → ((m : Metadata) (b : Book) → P b → P (with_metadata m b)) → (tables : TableSet) (bytes : List ℕ) (book : held.Book) → IsBookAfter tables book bytes [] → P (whole_of book) → (other : List ℕ) → P (book_after tables other bytes)
anytime P free tables bytes book is told other =
    subst P (sym (after_anytime (metadata_made other) (made_start is.0 tables) (texts_of bytes)))
    (free (metadata_made other) (book_after tables is.0 bytes) (subst P is.1 told))
