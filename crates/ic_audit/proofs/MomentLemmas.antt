-- What is asked for doesn't hang on the moment when the book was made.
use Rattle.std.proofs.Common.{◌≡◌, ℕ, List, [], refl, sym, ap, ◌∙◌}
use Rattle.ic_laws.specs.Lines.{texts_of}
use Rattle.ic_tables.specs.Tables.{TableSet}
use Rattle.ic_cells.specs.declared.workbook.Metadata.{Metadata}
use Rattle.ic_machine.specs.Book.{Book}
use Rattle.ic_machine.proofs.same.MetadataFree.{with_metadata}
use Rattle.ic_parts.specs.Book as held
use Rattle.ic_parts.specs.Book.{metadata_made}
use Rattle.ic_parts.specs.Whole.{whole_of}
use Rattle.ic_run.specs.Make.{made_start}
use Rattle.ic_run.proofs.MomentLemmas.{after_anytime}
use Rattle.ic_run.specs.Prepared.{IsBookAfter, book_after}
use Rattle.ic_audit.specs.Asked.{OfName, OfSheet, Question, sites_asked}

no_metadata : (question : Question) (m : Metadata) (book : Book) → sites_asked question (with_metadata m book) ≡ sites_asked question book
no_metadata (OfSheet name) m book = refl
no_metadata (OfName name scope) m book = refl

pub asked_anytime : (question : Question) (tables : TableSet) (bytes : List ℕ) (book : held.Book) → IsBookAfter tables book bytes [] → (other : List ℕ) → sites_asked question (whole_of book) ≡ sites_asked question (book_after tables other bytes)
asked_anytime question tables bytes book is other =
    ap (sites_asked question) is.1 ∙ sym (no_metadata question (metadata_made other) (book_after tables is.0 bytes))
    ∙ ap (sites_asked question) (sym (after_anytime (metadata_made other) (made_start is.0 tables) (texts_of bytes)))
