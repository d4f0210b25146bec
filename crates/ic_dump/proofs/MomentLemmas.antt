-- What is told doesn't hang on the moment when the book was made.
use Rattle.std.proofs.Common.{◌≡◌, ℕ, List, [], Option, None, Some, refl, subst}
use Rattle.ic_lines.specs.Bytes.{AppendsFront}
use Rattle.ic_tables.specs.Tables.{TableSet}
use Rattle.ic_cells.specs.declared.workbook.Metadata.{Metadata}
use Rattle.ic_machine.specs.Book.{Book, core_of, notations_in}
use Rattle.ic_machine.proofs.same.MetadataFree.{with_metadata}
use Rattle.ic_parts.specs.Book as held
use Rattle.ic_parts.specs.Whole.{whole_of}
use Rattle.ic_run.proofs.MomentLemmas.{anytime}
use Rattle.ic_run.specs.Prepared.{IsBookAfter, book_after}
use Rattle.ic_dump.specs.Refused.{Cause, RawBody, Rereads, cause_of}
use Rattle.ic_dump.specs.Told.{TellsCannot, TellsDump, told_by, told_of}

told_free : (m : Metadata) (b : Book) → told_of b ≡ told_of (with_metadata m b)
told_free m b = by_cause (cause_of (notations_in b) (core_of b))
  where
    by_cause : (cause : Option Cause) → told_by cause b ≡ told_by cause (with_metadata m b)
    by_cause None = refl
    by_cause (Some (RawBody key)) = refl
    by_cause (Some (Rereads site)) = refl

module _ (before now : List ℕ) where
  pub dump_anytime : (tables : TableSet) (bytes : List ℕ) (book : held.Book) → IsBookAfter tables book bytes [] → TellsDump (whole_of book) before now → (other : List ℕ) → TellsDump (book_after tables other bytes) before now
  dump_anytime = anytime (λ b. TellsDump b before now) (λ m b t. record { none = t.none; written = t.written; rebuilds = t.rebuilds })

  pub cannot_anytime : (tables : TableSet) (bytes : List ℕ) (book : held.Book) → IsBookAfter tables book bytes [] → TellsCannot (whole_of book) before now → (other : List ℕ) → TellsCannot (book_after tables other bytes) before now
  cannot_anytime = anytime (λ b. TellsCannot b before now) (λ m b t. record { site = t.site; cause = t.cause; written = t.written })

  pub front_anytime : (tables : TableSet) (bytes : List ℕ) (book : held.Book) → IsBookAfter tables book bytes [] → AppendsFront (told_of (whole_of book)) before now → (other : List ℕ) → AppendsFront (told_of (book_after tables other bytes)) before now
  front_anytime = anytime (λ b. AppendsFront (told_of b) before now) (λ m b t. subst (λ (text : List ℕ). AppendsFront text before now) (told_free m b) t)
