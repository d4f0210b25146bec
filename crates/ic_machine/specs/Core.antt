-- The commands that the identity machine has, too, and how a step of the whole machine is seen by it.
use Rattle.std.specs.Prelude.{◌≡◌, ℕ, ◌<◌, List, length, Bool, true, false, Option, Some, None, Result, Ok, Err, is_some, slice_get}
use Rattle.std.specs.FinMap as finite
use Rattle.ic_laws.specs.Command as core
use Rattle.ic_laws.specs.CoreBook.{CellPlace, CoreBook}
use Rattle.ic_laws.specs.CoreStep.{Outcome, core_step}
use Rattle.ic_laws.specs.Scan.{first_is}
use Rattle.ic_input.specs.Convention.{is_sign}
use Rattle.ic_grid.specs.Arrays.{is_fixed_at}
use Rattle.ic_grid.specs.Merges.{is_covered}
use Rattle.ic_machine.specs.Book.{Book, Sheet, Stepped, core_of, notations_in}
use Rattle.ic_machine.specs.Command.{Command, OnDefinitions, OnNotation, OnReading, OnSheets, OnWriting, command_in, commands}
use Rattle.ic_machine.specs.Content.{Content, formula_index, held}
use Rattle.ic_machine.specs.InForce.{in_force}
use Rattle.ic_machine.specs.Refusal.{OfCore, Refusal}
use Rattle.ic_machine.specs.Reply.{Field, of_core_fields}
use Rattle.ic_machine.specs.Step.{step}
use Rattle.ic_machine.specs.subjects.Definitions as definitions
use Rattle.ic_machine.specs.subjects.Definitions.{Definitions}
use Rattle.ic_machine.specs.subjects.Notation as notation
use Rattle.ic_machine.specs.subjects.Notation.{Notation}
use Rattle.ic_machine.specs.subjects.Reading as reading
use Rattle.ic_machine.specs.subjects.Reading.{Reading}
use Rattle.ic_machine.specs.subjects.Sheets as sheets
use Rattle.ic_machine.specs.subjects.Sheets.{Sheets}
use Rattle.ic_machine.specs.subjects.Writing as writing
use Rattle.ic_machine.specs.subjects.Writing.{Writing}

-- by subjects; a formula that is written needs a premise of its own, and isn't here
abbrev pub core_sheets : Sheets → Option core.Command
core_sheets (sheets.AddSheet name) = Some (core.AddSheet name)
core_sheets (sheets.RenameSheet old new) = Some (core.RenameSheet old new)
core_sheets (sheets.RenameSheetByIndex sheet name) = Some (core.RenameSheetByIndex sheet name)
core_sheets (sheets.MoveSheet sheet to) = Some (core.MoveSheet sheet to)
core_sheets (sheets.DeleteSheet sheet) = Some (core.DeleteSheet sheet)
core_sheets (sheets.DeleteSheetByName name) = Some (core.DeleteSheetByName name)
core_sheets (sheets.DeleteSheetBySheetId id) = Some (core.DeleteSheetBySheetId id)
core_sheets sheets.GetNewSheetId = Some core.GetNewSheetId
core_sheets command = None

abbrev pub core_definitions : Definitions → Option core.Command
core_definitions (definitions.NewDefinedName name scope body) = Some (core.NewDefinedName name scope body)
core_definitions (definitions.DeleteDefinedName name scope) = Some (core.DeleteDefinedName name scope)
core_definitions (definitions.IsValidDefinedName name scope body) = Some (core.IsValidDefinedName name scope body)
core_definitions definitions.GetDefinedNameList = Some core.GetDefinedNameList
core_definitions command = None

abbrev pub core_notation : Notation → Option core.Command
core_notation (notation.SetLocale id) = Some (core.SetLocale id)
core_notation (notation.SetLanguage id) = Some (core.SetLanguage id)
core_notation command = None

abbrev pub core_reading : Reading → Option core.Command
core_reading (reading.GetCellFormula sheet row column) = Some (core.GetCellFormula sheet row column)
core_reading command = None

-- the identity machine's command that a command is, if that has it
abbrev pub core_command : Command → Option core.Command
core_command (OnSheets command) = core_sheets command
core_command (OnDefinitions command) = core_definitions command
core_command (OnNotation command) = core_notation command
core_command (OnReading command) = core_reading command
core_command command = None

-- the same with the command that writes a formula
abbrev pub core_writing : Writing → Option core.Command
core_writing (writing.UpdateCellWithFormula sheet row column text) = Some (core.UpdateCellWithFormula sheet row column text)
core_writing command = None

abbrev pub counterpart : Command → Option core.Command
counterpart (OnWriting command) = core_writing command
counterpart command = core_command command

-- A line is a core line, by the English words of the error values: it is no command, or one that the identity machine has.
abbrev pub is_core : Option Command → Bool
is_core None = true
is_core (Some command) = is_some (counterpart command)

abbrev pub is_core_line : List (List ℕ) → List ℕ → Bool
is_core_line english line = is_core (command_in english commands line)

-- the other way: the command that one of the identity machine is
abbrev pub whole_command : core.Command → Command
whole_command (core.AddSheet name) = OnSheets (sheets.AddSheet name)
whole_command (core.RenameSheet old new) = OnSheets (sheets.RenameSheet old new)
whole_command (core.RenameSheetByIndex sheet name) = OnSheets (sheets.RenameSheetByIndex sheet name)
whole_command (core.MoveSheet sheet to) = OnSheets (sheets.MoveSheet sheet to)
whole_command (core.DeleteSheet sheet) = OnSheets (sheets.DeleteSheet sheet)
whole_command (core.DeleteSheetByName name) = OnSheets (sheets.DeleteSheetByName name)
whole_command (core.DeleteSheetBySheetId id) = OnSheets (sheets.DeleteSheetBySheetId id)
whole_command (core.NewDefinedName name scope body) = OnDefinitions (definitions.NewDefinedName name scope body)
whole_command (core.DeleteDefinedName name scope) = OnDefinitions (definitions.DeleteDefinedName name scope)
whole_command (core.IsValidDefinedName name scope body) = OnDefinitions (definitions.IsValidDefinedName name scope body)
whole_command core.GetDefinedNameList = OnDefinitions definitions.GetDefinedNameList
whole_command core.GetNewSheetId = OnSheets sheets.GetNewSheetId
whole_command (core.SetLocale id) = OnNotation (notation.SetLocale id)
whole_command (core.SetLanguage id) = OnNotation (notation.SetLanguage id)
whole_command (core.UpdateCellWithFormula sheet row column text) = OnWriting (writing.UpdateCellWithFormula sheet row column text)
whole_command (core.GetCellFormula sheet row column) = OnReading (reading.GetCellFormula sheet row column)

-- the core that is left and the fields of the reply, or the refusal: of a step of the whole machine, and of the core's
abbrev pub Told : Type 0
Told = Result (CoreBook × List Field) Refusal

abbrev pub told_by : Stepped Book → Told
told_by (Err refusal) = Err refusal
told_by (Ok done) = Ok (core_of done.0, done.1)

abbrev pub told_by_core : Outcome → Told
told_by_core (Err refusal) = Err (OfCore refusal)
told_by_core (Ok done) = Ok (done.0, of_core_fields done.1)

-- what a command leaves and answers is, seen by its core, what the identity machine's command does
abbrev pub IsSteppedAs : Book → Command → Option core.Command → Type 0
IsSteppedAs book command None = Unit {0}
IsSteppedAs book command (Some c) = told_by (step book command) ≡ told_by_core (core_step (notations_in book) (core_of book) c)

-- The command that writes a formula. The identity machine knows no merges, no arrays and no text that a sign begins. ----

-- each formula of a sheet is one of its pool
abbrev pub HasPooled : Sheet → Type 0
HasPooled sheet =
    (place : CellPlace) (content : Content) (index : ℕ) → finite.get sheet.grid.contents place ≡ Some content → formula_index content ≡ Some index
    → index < length sheet.pool

-- a place of a sheet is covered by no merged cells, and is no part of a Cse array of more than one cell
pub record IsFree (sheet : Sheet) (place : CellPlace) : Type 0 where
  pub uncovered : is_covered sheet.grid.merges place ≡ false
  pub loose : is_fixed_at held sheet.grid.contents place ≡ false
  pub pooled : HasPooled sheet

-- so is a place of the sheet at an index, where there is one; and the book's notation is of its tables
pub record TakesFormula (book : Book) (index : ℕ) (place : CellPlace) : Type 0 where
  pub read : is_some (in_force book) ≡ true
  pub free : (sheet : Sheet) → slice_get book.sheets index ≡ Some sheet → IsFree sheet place

-- a text begins with a plus or a minus
abbrev pub begins_with_sign : List ℕ → Bool
begins_with_sign text = first_is is_sign text

-- a formula that is written there is, seen by its core, what the identity machine writes
abbrev pub FormulaIsStepped : Type 0
FormulaIsStepped =
    (book : Book) (sheet : ℕ) (place : CellPlace) (text : List ℕ) → TakesFormula book sheet place → begins_with_sign text ≡ false
    → IsSteppedAs book (OnWriting (writing.UpdateCellWithFormula sheet place.0 place.1 text)) (Some (core.UpdateCellWithFormula sheet place.0 place.1 text))
