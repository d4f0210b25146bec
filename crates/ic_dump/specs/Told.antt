-- What the program writes.
use Rattle.std.specs.Prelude.{◌≡◌, ℕ, List, ◌++◌, codes, flat_map, encode_utf8_all, Option, Some, None}
use Rattle.ic_tables.specs.Tables.{TableSet}
use Rattle.ic_lines.specs.Bytes.{AppendsFront}
use Rattle.ic_machine.specs.Book.{Book, core_of, notations_in}
use Rattle.ic_machine.specs.Refusal.{Site}
use Rattle.ic_run.specs.Prepared.{book_after}
use Rattle.ic_run.specs.Translate.{ended_line}
use Rattle.ic_dump.specs.Lines.{dump_lines}
use Rattle.ic_dump.specs.Rebuilds.{Rebuilds}
use Rattle.ic_dump.specs.Refused.{Cause, Rereads, cause_of}

-- the bytes of lines, each with its line feed
abbrev pub told_lines : List (List ℕ) → List ℕ
told_lines lines = encode_utf8_all (flat_map ended_line lines)

-- the line that tells that a cell's text would read
abbrev pub told_cannot : List ℕ
told_cannot = codes "cannot\tRereads\n"

-- the lines of a whole book
abbrev pub lines_of_book : Book → List (List ℕ)
lines_of_book book = dump_lines (notations_in book) (core_of book)

-- the lines that rebuild a book were written behind what was before
pub record TellsDump (book : Book) (before now : List ℕ) : Type 0 where
  pub none : cause_of (notations_in book) (core_of book) ≡ None
  pub written : now ≡ before ++ told_lines (lines_of_book book)
  pub rebuilds : Rebuilds book.tables (lines_of_book book) (core_of book)

-- a cell's text would read, and that was written
pub record TellsCannot (book : Book) (before now : List ℕ) : Type 0 where
  pub site : Site
  pub cause : cause_of (notations_in book) (core_of book) ≡ Some (Rereads site)
  pub written : now ≡ before ++ told_cannot

-- what is to be written of a book, by its cause
abbrev pub told_by : Option Cause → Book → List ℕ
told_by (Some (Rereads site)) book = told_cannot
told_by cause book = told_lines (lines_of_book book)

abbrev pub told_of : Book → List ℕ
told_of book = told_by (cause_of (notations_in book) (core_of book)) book

-- Of the book after the lines of some bytes, from a new one, whenever that was made. ----

abbrev pub AppendsDump : TableSet → List ℕ → List ℕ → List ℕ → Type 0
AppendsDump tables bytes before now = (created : List ℕ) → TellsDump (book_after tables created bytes) before now

abbrev pub AppendsCannot : TableSet → List ℕ → List ℕ → List ℕ → Type 0
AppendsCannot tables bytes before now = (created : List ℕ) → TellsCannot (book_after tables created bytes) before now

abbrev pub AppendsToldFront : TableSet → List ℕ → List ℕ → List ℕ → Type 0
AppendsToldFront tables bytes before now = (created : List ℕ) → AppendsFront (told_of (book_after tables created bytes)) before now
