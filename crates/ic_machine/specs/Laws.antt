-- What the laws of the machine say.
use Rattle.std.specs.Prelude.{◌≡◌, ℕ, ◌+◌, ◌≤◌, ◌<◌, List, length, true, false, Some, None, Ok, Err, option_map, slice_get}
use Rattle.ic_laws.specs.Command as core
use Rattle.ic_laws.specs.CoreBook.{CoreBook, has_sheet}
use Rattle.ic_laws.specs.Lines as lines
use Rattle.ic_laws.specs.Notations.{Notations}
use Rattle.ic_machine.specs.Book.{Book, Sheet, core_of}
use Rattle.ic_machine.specs.Command.{Command, OnSheets, command_in, commands}
use Rattle.ic_machine.specs.Core.{counterpart, is_core_line, whole_command}
use Rattle.ic_machine.specs.Refusal.{BadLine, Refusal}
use Rattle.ic_machine.specs.Reply.{Field}
use Rattle.ic_machine.specs.Row.{Row}
use Rattle.ic_machine.specs.Run.{after, replies}
use Rattle.ic_machine.specs.Step.{core_machine, english_errors, line_step, step}
use Rattle.ic_machine.specs.Valid.{IsValidBook}
use Rattle.ic_machine.specs.subjects.Sheets.{DuplicateSheet, NewSheet, copy_name, free_number, named_fields, numbered_name}

-- a line that is no command of a table leaves the book, and is bad
abbrev pub BadLineStays : Type 0
BadLineStays =
    (rows : List (Row Command)) (book : Book) (line : List ℕ) → command_in (english_errors book) rows line ≡ None → line_step rows book line ≡ (book, Err BadLine)

-- a line whose command is refused leaves the book, and is answered by the refusal
abbrev pub RefusedStays : Type 0
RefusedStays =
    (rows : List (Row Command)) (book : Book) (line : List ℕ) (command : Command) (refusal : Refusal) → command_in (english_errors book) rows line ≡ Some command
    → step book command ≡ Err refusal → line_step rows book line ≡ (book, Err refusal)

-- what a run of lines leaves, and what it replies, by the identity machine as one of any machines, is what the core's run does
abbrev pub RunsLeaveSame : Type 0
RunsLeaveSame =
    (n : Notations) (table : List core.CommandRow) (book : CoreBook) (all : List (List ℕ)) → after (core_machine n table) book all ≡ lines.after n table book all

abbrev pub RunsTellSame : Type 0
RunsTellSame =
    (n : Notations) (table : List core.CommandRow) (book : CoreBook) (all : List (List ℕ)) → replies (core_machine n table) book all ≡ lines.replies n table book all

-- the command that a core line is by the whole table is the one that it is by the identity machine's table; where it is none of
-- these, it is none of those
abbrev pub CoreLinesAreCore : Type 0
CoreLinesAreCore =
    (english : List (List ℕ)) (line : List ℕ) → is_core_line english line ≡ true
    → command_in english commands line ≡ option_map whole_command (lines.command_of core.commands line)

-- and each line that is a command of the identity machine is just that by the whole table, whatever the English words are
abbrev pub CoreIsRead : Type 0
CoreIsRead =
    (english : List (List ℕ)) (line : List ℕ) (command : core.Command) → lines.command_of core.commands line ≡ Some command
    → command_in english commands line ≡ Some (whole_command command)

-- and no two commands of the identity machine are one
abbrev pub CounterpartsAreBack : Type 0
CounterpartsAreBack = (command : core.Command) → counterpart (whole_command command) ≡ Some command

-- the number of a free name is at most one more than there are sheets
abbrev pub NumbersAreSmall : Type 0
NumbersAreSmall = (book : Book) (name : ℕ → List ℕ) → free_number book name ≤ length book.sheets + 1

-- of the numbers from 1 on, this is the first whose name no sheet of a book has: each smaller one gives a name that agrees
-- with that of some sheet
pub record IsFirstFree (book : Book) (name : ℕ → List ℕ) (number : ℕ) : Type 0 where
  pub from_one : 1 ≤ number
  pub free : has_sheet (core_of book) (name number) ≡ false
  pub taken : (smaller : ℕ) → 1 ≤ smaller → smaller < number → has_sheet (core_of book) (name smaller) ≡ true

-- a book has at an index a sheet with the name that a reply tells, which is the first free one
pub record IsNamedFirst (book : Book) (name : ℕ → List ℕ) (index : ℕ) (after : Book) (fields : List Field) : Type 0 where
  pub number : ℕ
  pub first : IsFirstFree book name number
  pub named : option_map (λ (sheet : Sheet). sheet.name) (slice_get after.sheets index) ≡ Some (name number)
  pub told : fields ≡ named_fields (name number) index

-- so is a new sheet named, at the end, by the word of the language with a number
abbrev pub NewIsNamedFirst : Type 0
NewIsNamedFirst =
    (book after : Book) (fields : List Field) → IsValidBook book → step book (OnSheets NewSheet) ≡ Ok (after, fields)
    → IsNamedFirst book (numbered_name book) (length book.sheets) after fields

-- and so is a copy, behind its source, by the source's name with a number in brackets
abbrev pub CopyIsNamedFirst : Type 0
CopyIsNamedFirst =
    (book after : Book) (index : ℕ) (source : Sheet) (fields : List Field) → IsValidBook book → slice_get book.sheets index ≡ Some source
    → step book (OnSheets (DuplicateSheet index)) ≡ Ok (after, fields)
    → IsNamedFirst book (copy_name source.name) (index + 1) after fields
