-- The words of the program, and what it writes.
use Rattle.std.specs.Prelude.{◌≡◌, ℕ, pos, List, [], ◌∷◌, ◌++◌, Option, Some, None, Result, Ok, Err, chars, codes, encode_utf8_all}
use Rattle.std.specs.Fmt.{decimal}
use Rattle.std.specs.List.{slice_get}
use Rattle.std.specs.Option.{option_map_or}
use Rattle.ic_laws.specs.Character.{line_feed, tab}
use Rattle.ic_lines.specs.Bytes.{AppendsFront, IfTold}
use Rattle.ic_tables.specs.Tables.{TableSet}
use Rattle.ic_machine.specs.Book.{Book}
use Rattle.ic_machine.specs.subjects.Reading.{sheet_markup}
use Rattle.ic_run.specs.Make.{made_start}
use Rattle.ic_run.specs.Translate.{Target}
use Rattle.ic_import.specs.declared.asked.Asked.{Asked}
use Rattle.ic_import.specs.declared.error.ImportError.{ImportError}
use Rattle.ic_import.specs.declared.error.ImportError.TheVariants as errors
use Rattle.ic_import.specs.Import.{Leaves, NoText, Outcome, Outside, Refused, Request, outcome}

-- the notation that the words ask for: en, en where there are none
abbrev pub target_of : List (List ℕ) → Option Target
target_of [] = Some (record { locale = codes "en"; language = codes "en" })
target_of (locale ∷ language ∷ []) = Some (record { locale = locale; language = language })
target_of words = None

-- the first field goes to row 1 and column 1 of the first sheet
abbrev pub request_of : Target → Request
request_of target = record { sheet = 0; at = (pos 1, pos 1); locale = target.locale; language = target.language }

-- the first sheet of a book as a table, in the notation in force
abbrev pub first_markup : Book → List ℕ
first_markup book = option_map_or (sheet_markup book) (slice_get book.sheets 0) []

-- the line that tells a field by its numbers, and what is wrong with it
abbrev pub refused_line : ℕ → ℕ → List ℕ → List ℕ
refused_line at_record at_field name = codes "refused\t" ++ (decimal at_record ++ (tab ∷ (decimal at_field ++ (tab ∷ (name ++ line_feed ∷ [])))))

-- The status and the text of an outcome. That the book refuses a field never comes in a new book.
abbrev pub Says : Outcome → ℕ → List ℕ → Type 0
Says (NoText at_record at_field) status text = (status ≡ 8) × (text ≡ refused_line at_record at_field (codes "NotUtf8"))
Says (Outside at_record at_field) status text = (status ≡ 8) × (text ≡ refused_line at_record at_field (codes "OutsideSheet"))
Says (Refused at_record at_field why) status text = ⊥
Says (Leaves book) status text = (status ≡ 0) × (text ≡ first_markup book ++ line_feed ∷ [])

-- This status is that of the outcome of bytes in a book, and its text stands after what was written before; or a front of the
-- text does, which isn't all of it. ----

pub record Writes (target : Target) (book : Book) (status : ℕ) (before now : Option (List ℕ)) (bytes rest : List ℕ) : Type 0 where
  pub text : List ℕ
  pub says : Says (outcome (request_of target) book bytes) status text
  pub written : IfTold before now (λ old new. new ≡ old ++ encode_utf8_all text)

pub record WritesPart (target : Target) (book : Book) (before now : Option (List ℕ)) (bytes rest : List ℕ) : Type 0 where
  pub status : ℕ
  pub text : List ℕ
  pub says : Says (outcome (request_of target) book bytes) status text
  pub written : IfTold before now (AppendsFront (encode_utf8_all text))

-- the same in the new book in en, en and UTC, which was made at some moment
abbrev pub HasWritten : Target → TableSet → ℕ → Option (List ℕ) → Option (List ℕ) → List ℕ → List ℕ → Type 0
HasWritten target tables status before now bytes rest = (created : List ℕ) × Writes target (made_start created tables) status before now bytes rest

abbrev pub HasWrittenPart : Target → TableSet → Option (List ℕ) → Option (List ℕ) → List ℕ → List ℕ → Type 0
HasWrittenPart target tables before now bytes rest = (created : List ℕ) × WritesPart target (made_start created tables) before now bytes rest

-- The same by an answer and the book that it left. ----

abbrev pub SaysOf : {T : Type 0} → Result T ImportError → Book → ℕ → List ℕ → Type 0
SaysOf (Ok counts) book status text = Says (Leaves book) status text
SaysOf (Err (errors.NotUtf8 at_record at_field)) book status text = Says (NoText at_record at_field) status text
SaysOf (Err (errors.OutsideSheet at_record at_field)) book status text = Says (Outside at_record at_field) status text
SaysOf (Err e) book status text = ⊥

-- an answer that is an error
abbrev pub failed : ImportError → Result (ℕ × ℕ) ImportError
failed e = Err e

-- the status of an answer where neither the request nor a field is refused
abbrev pub status_of : {T : Type 0} → Result T ImportError → ℕ
status_of (Ok counts) = 0
status_of (Err errors.ReadFault) = 3
status_of (Err errors.TooManyTurns) = 5
status_of (Err errors.OutOfMemory) = 6
status_of (Err e) = 8

abbrev pub NeverRefuses : {T : Type 0} → Result T ImportError → Type 0
NeverRefuses (Err (errors.Book e)) = ⊥
NeverRefuses (Err (errors.Blocked at_record at_field why)) = ⊥
NeverRefuses result = Unit {0}

-- the notation that the words ask for, as texts
abbrev pub target : Asked → Target
target asked = record { locale = chars asked.locale.now; language = chars asked.language.now }
