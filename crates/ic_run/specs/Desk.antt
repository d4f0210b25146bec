-- The program's words, its start and its statuses.
use Rattle.std.specs.Prelude.{String, ℕ, List, [], ◌∷◌, map, chars, codes, string_bytes, bytes_eq, Option, Some, None, Result, Ok, Err, if◌then◌else◌}
use Rattle.std.specs.declared.alloc.Global.{Global}
use Rattle.ic_laws.specs.CoreBook.{CoreBook}
use Rattle.ic_laws.specs.Refusal.{Refusal}
use Rattle.ic_tables.specs.Tables.{TableSet}
use Rattle.ic_lines.specs.declared.error.RunError.{RunError}
use Rattle.ic_lines.specs.declared.error.RunError.TheVariants as run
use Rattle.ic_parts.specs.declared.error.BookError.{BookError}
use Rattle.ic_parts.specs.declared.error.BookError.TheVariants as book
use Rattle.ic_parts.specs.Book.{Book, first_sheet_name_in, new_book, new_book_refusal}

-- the locale, the language and the zone that the program begins with
pub record Setting : Type 0 where
  pub locale : List ℕ
  pub language : List ℕ
  pub zone : List ℕ

-- the texts of the words
abbrev pub texts : List (String Global) → List (List ℕ)
texts words = map (λ word. chars (string_bytes word)) words

-- what the words name: en, en and UTC where there are none, what follows the word run, and nothing otherwise
abbrev pub setting_of : List (List ℕ) → Option Setting
setting_of [] = Some (record { locale = codes "en"; language = codes "en"; zone = codes "UTC" })
setting_of (name ∷ locale ∷ language ∷ zone ∷ []) = if bytes_eq name (codes "run") then Some (record { locale = locale; language = language; zone = zone }) else None
setting_of words = None

-- the core of the book that the program begins with: one sheet, which has the id 1, and nothing in it
abbrev pub start : Setting → CoreBook
start setting = record {
  sheets = record { id = 1; name = first_sheet_name_in setting.language; cells = [] } ∷ [];
  definitions = [];
  locale = setting.locale;
  language = setting.language;
}

-- and the book itself, which was made at this moment
abbrev pub start_book : Setting → List ℕ → TableSet → Book
start_book setting created tables = new_book (codes "workbook") setting.locale setting.zone setting.language created tables

-- what of these the tables lack
abbrev pub start_refusal : Setting → TableSet → Option Refusal
start_refusal setting tables = new_book_refusal setting.locale setting.zone setting.language tables

-- the status for what a run answered
abbrev pub run_status : Result ℕ RunError → ℕ
run_status (Ok count) = 0
run_status (Err run.ReadFault) = 3
run_status (Err run.WriteFault) = 4
run_status (Err run.TooManyTurns) = 5
run_status (Err run.OutOfMemory) = 6

-- the status where there is no book to begin with: memory ran out, or the locale, the language or the zone is unknown
abbrev pub start_status : BookError → ℕ
start_status book.OutOfMemory = 6
start_status e = 2
