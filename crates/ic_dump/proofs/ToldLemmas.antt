-- What is written of a book, by its core.
use Rattle.std.proofs.Common.{◌≡◌, ◌++◌, ◌∙◌, ℕ, List, None, Some, ap, subst, sym}
use Rattle.ic_lines.specs.Bytes.{AppendsFront}
use Rattle.ic_machine.specs.Refusal.{Site}
use Rattle.ic_parts.proofs.WholeLemmas.{whole_core}
use Rattle.ic_parts.specs.Book.{Book, core_of, notations_in, whole_of}
use Rattle.ic_dump.specs.Lines.{dump_lines}
use Rattle.ic_dump.specs.Rebuilds.{Rebuilds}
use Rattle.ic_dump.specs.Refused.{Rereads, cause_of}
use Rattle.ic_dump.specs.Told.{TellsCannot, TellsDump, lines_of_book, told_by, told_cannot, told_lines, told_of}

-- the lines of the whole book are those of the book
lines_whole : (book : Book) → dump_lines (notations_in book) (core_of book) ≡ lines_of_book (whole_of book)
lines_whole book = ap (dump_lines (notations_in book)) (sym (whole_core book))

pub tells_dump : (book : Book) (before now : List ℕ) (all : List (List ℕ)) → cause_of (notations_in book) (core_of book) ≡ None → all ≡ dump_lines (notations_in book) (core_of book) → Rebuilds book.tables all (core_of book) → now ≡ before ++ told_lines all → TellsDump (whole_of book) before now
tells_dump book before now all none is rebuilds written = record {
  none = ap (cause_of (notations_in book)) (whole_core book) ∙ none;
  written = written ∙ ap (λ ls. before ++ told_lines ls) (is ∙ lines_whole book);
  rebuilds =
      subst (λ core. Rebuilds book.tables (dump_lines (notations_in book) core) core) (sym (whole_core book))
      (subst (λ ls. Rebuilds book.tables ls (core_of book)) is rebuilds);
}

pub tells_cannot : (book : Book) (before now : List ℕ) (site : Site) → cause_of (notations_in book) (core_of book) ≡ Some (Rereads site) → now ≡ before ++ told_cannot → TellsCannot (whole_of book) before now
tells_cannot book before now site cause written = record { site = site; cause = ap (cause_of (notations_in book)) (whole_core book) ∙ cause; written = written }

-- a front of either
pub fronts_dump : (book : Book) (before now : List ℕ) (all : List (List ℕ)) → cause_of (notations_in book) (core_of book) ≡ None → all ≡ dump_lines (notations_in book) (core_of book) → AppendsFront (told_lines all) before now → AppendsFront (told_of (whole_of book)) before now
fronts_dump book before now all none is front =
    subst (λ text. AppendsFront text before now)
    (ap told_lines (is ∙ lines_whole book) ∙ sym (ap (λ cause. told_by cause (whole_of book)) (ap (cause_of (notations_in book)) (whole_core book) ∙ none))) front

pub fronts_cannot : (book : Book) (before now : List ℕ) (site : Site) → cause_of (notations_in book) (core_of book) ≡ Some (Rereads site) → AppendsFront told_cannot before now → AppendsFront (told_of (whole_of book)) before now
fronts_cannot book before now site cause front =
    subst (λ text. AppendsFront text before now) (sym (ap (λ cause. told_by cause (whole_of book)) (ap (cause_of (notations_in book)) (whole_core book) ∙ cause))) front
