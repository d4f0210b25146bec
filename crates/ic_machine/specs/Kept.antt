-- A step keeps what always holds of a book.
use Rattle.std.specs.Prelude.{◌≡◌, ℕ, List, Bool, true, false, not, nat_lt, Option, Some, None, Ok, Err}
use Rattle.ic_laws.specs.Amount.{is_amount}
use Rattle.ic_laws.specs.Command as core
use Rattle.ic_laws.specs.CoreBook.{last_id}
use Rattle.ic_laws.specs.ValidCore.{IsValidCore}
use Rattle.ic_machine.specs.Book.{Book, Stepped, core_of, notations_in}
use Rattle.ic_machine.specs.Command.{Command}
use Rattle.ic_machine.specs.Core.{core_command}
use Rattle.ic_machine.specs.Reply.{Field}
use Rattle.ic_machine.specs.Step.{step}
use Rattle.ic_machine.specs.Valid.{IsValidBook}
use Rattle.ic_machine.specs.subjects.Sheets as sheets
use Rattle.ic_machine.specs.subjects.Sheets.{Sheets}
use Rattle.ic_machine.specs.subjects.Writing as writing
use Rattle.ic_machine.specs.subjects.Writing.{Writing}

-- what a step leaves, if it isn't refused, is a valid book
abbrev pub StaysValid : Stepped Book → Type 0
StaysValid (Ok done) = IsValidBook done.0
StaysValid (Err refusal) = Unit {0}

-- so do the steps of all commands of a subject
abbrev pub KeepsValid : {C : Type 0} → (Book → C → Stepped Book) → Type 0
KeepsValid {C} step = (book : Book) (command : C) → IsValidBook book → StaysValid (step book command)

-- the same, asked of some commands of a subject alone
abbrev pub StaysValidIf : Bool → Stepped Book → Type 0
StaysValidIf true stepped = StaysValid stepped
StaysValidIf false stepped = Unit {0}

abbrev pub KeepsValidIf : {C : Type 0} → (C → Bool) → (Book → C → Stepped Book) → Type 0
KeepsValidIf {C} asked step = (book : Book) (command : C) → IsValidBook book → StaysValidIf (asked command) (step book command)

-- an id that a word can say, or none
abbrev pub is_given_id : Option ℕ → Bool
is_given_id None = true
is_given_id (Some id) = not (nat_lt last_id id)

-- the commands on sheets whose ids, where one is given, are such that a word can say
abbrev pub gives_id : Sheets → Bool
gives_id (sheets.InsertSheet name index id) = is_given_id id
gives_id command = true

-- the commands that write a cell whose number, where one is given, is an amount, as each is that a word can say
abbrev pub gives_amount : Writing → Bool
gives_amount (writing.UpdateCellWithNumber sheet row column amount) = is_amount amount
gives_amount command = true

-- the core of a valid book is a valid book of the identity machine
abbrev pub CoreIsValid : Type 0
CoreIsValid = (book : Book) → IsValidBook book → IsValidCore (notations_in book) (core_of book)

-- and stays one over each command that the identity machine has, too, but that which writes a formula
abbrev pub CoreStaysValid : Type 0
CoreStaysValid =
    (book after : Book) (command : Command) (of_core : core.Command) (fields : List Field) → IsValidBook book → core_command command ≡ Some of_core
    → step book command ≡ Ok (after, fields) → IsValidCore (notations_in book) (core_of after)
