-- A book that is opened, and why none is.
use Rattle.std.specs.Prelude.{◌≡◌, ℕ, ◌⊎◌, List, [], Option, Some, None, IsUtf8}
use Rattle.std.specs.List.{AllByRecursion}
use Rattle.ic_laws.specs.Refusal.{InvalidLanguage, InvalidLocale, InvalidTimezone, Refusal}
use Rattle.ic_tables.specs.Sample.{sample}
use Rattle.ic_tables.specs.Tables.{TableSet}
use Rattle.ic_parts.specs.Book.{new_book, new_book_refusal}
use Rattle.ic_parts.specs.declared.error.BookError.{BookError}
use Rattle.ic_parts.specs.declared.error.BookError.TheVariants as errors
use Rattle.ic_c.specs.Held.{open_in, reply_of, tables_in}
use Rattle.ic_c.specs.declared.session.Open.{Open}
use Rattle.ic_c.specs.declared.session.Session.{Session}

-- what a book is asked for with, as characters
pub record Wanted : Type 0 where
  pub name : List ℕ
  pub locale : List ℕ
  pub language : List ℕ
  pub zone : List ℕ

-- why these tables have no book that is asked for so
abbrev pub wanted_refusal : Wanted → TableSet → Option Refusal
wanted_refusal wanted tables = new_book_refusal wanted.locale wanted.zone wanted.language tables

-- a new book stands open, as it was asked for, over these tables, made at some moment; no reply is kept
pub record IsNew (wanted : Wanted) (tables : TableSet) (opened : Open) : Type 0 where
  pub allowed : wanted_refusal wanted tables ≡ None
  pub book : opened.book.book ≡ new_book wanted.name wanted.locale wanted.zone wanted.language opened.book.book.metadata.created tables
  pub reply : reply_of opened ≡ []

-- a refusal of the tables, by its status
abbrev pub IsRefusal : ℕ → Type 0
IsRefusal status = (status ≡ 5) ⊎ ((status ≡ 6) ⊎ (status ≡ 7))

-- the status of what wasn't opened: the refusal that holds, or, where none does, that memory ran out
pub record TellsRefusal (refusal : Option Refusal) (status : ℕ) : Type 0 where
  pub no_memory : status ≡ 1 → refusal ≡ None
  pub zone : status ≡ 5 → refusal ≡ Some InvalidTimezone
  pub locale : status ≡ 6 → refusal ≡ Some InvalidLocale
  pub language : status ≡ 7 → refusal ≡ Some InvalidLanguage
  pub which : (status ≡ 1) ⊎ IsRefusal status

-- why no book was opened, by the tables that there are: without any, memory ran out
abbrev pub NoBook : Wanted → Option TableSet → ℕ → Type 0
NoBook wanted None status = status ≡ 1
NoBook wanted (Some tables) status = TellsRefusal (wanted_refusal wanted tables) status

-- the statuses of a call that opens a book
abbrev pub IsOpenStatus : ℕ → Type 0
IsOpenStatus status = (status ≡ 0) ⊎ ((status ≡ 1) ⊎ ((status ≡ 4) ⊎ ((status ≡ 8) ⊎ IsRefusal status)))

-- each of these texts is UTF-8
abbrev pub AreUtf8 : List (List ℕ) → Type 0
AreUtf8 texts = AllByRecursion IsUtf8 texts

-- a room for tables has some after, and holds what it held, if that had any; else the tables that there are, or what it held
abbrev pub KeepsTables : Option Session → Option Session → Type 0
KeepsTables old new = (new ≡ old) ⊎ ((tables_in old ≡ None) × (tables_in new ≡ Some sample) × (open_in new ≡ None))

-- the status of an error of a book that isn't made
abbrev pub error_status : BookError → ℕ
error_status errors.InvalidTimezone = 5
error_status errors.InvalidLocale = 6
error_status errors.InvalidLanguage = 7
error_status e = 1
