-- Core lines: those that the identity machine knows, in books of which it knows all; and that it does with them what the whole
-- machine does.
use Rattle.std.specs.Prelude.{◌≡◌, ℕ, List, [], true, false, Option, Some, None}
use Rattle.std.specs.FinMap as finite
use Rattle.std.specs.List.{AllByRecursion}
use Rattle.ic_laws.specs.Command as core
use Rattle.ic_laws.specs.CoreBook.{CoreBook}
use Rattle.ic_laws.specs.Notations.{Notations}
use Rattle.ic_tables.specs.Tables.{TableSet, english, error_words_in}
use Rattle.ic_grid.specs.Block.{Place}
use Rattle.ic_grid.specs.Shape.{is_loose}
use Rattle.ic_machine.specs.Book as machine
use Rattle.ic_machine.specs.Book.{Grid, Sheet}
use Rattle.ic_machine.specs.Command.{Command, OnWriting, command_in, commands}
use Rattle.ic_machine.specs.Content.{Content, shape_of}
use Rattle.ic_machine.specs.Core.{begins_with_sign, is_core_line}
use Rattle.ic_machine.specs.Run.{Machine}
use Rattle.ic_machine.specs.Step.{core_machine, machine as machine_of}
use Rattle.ic_machine.specs.subjects.Writing.{UpdateCellWithFormula}
use Rattle.ic_parts.specs.Book.{Book, ModelState, StepsTo, core_of, notations_in}
use Rattle.ic_parts.specs.Whole.{whole_of}
use Rattle.ic_commands.specs.Answered.{LeavesLine}

-- the whole machine, by the table of all commands
abbrev pub whole_machine : Machine machine.Book
whole_machine = machine_of commands

-- the identity machine, by the table of its commands
abbrev pub identity_machine : Notations → Machine CoreBook
identity_machine n = core_machine n core.commands

-- no text that is written as a formula begins with a sign
abbrev pub HasNoSign : Command → Type 0
HasNoSign (OnWriting (UpdateCellWithFormula sheet row column text)) = begins_with_sign text ≡ false
HasNoSign command = Unit {0}

abbrev pub WritesNoSign : Option Command → Type 0
WritesNoSign (Some command) = HasNoSign command
WritesNoSign None = Unit {0}

-- A line is a core line, by the tables of a book: it is no command, or one that the identity machine has, and it writes no formula
-- that begins with a sign, which the identity machine doesn't know.
abbrev pub IsCore : TableSet → List ℕ → Type 0
IsCore tables line =
    (is_core_line (error_words_in (english tables.languages)) line ≡ true) × WritesNoSign (command_in (error_words_in (english tables.languages)) commands line)

-- lines are
abbrev pub AreCore : TableSet → List (List ℕ) → Type 0
AreCore tables lines = AllByRecursion (IsCore tables) lines

-- a sheet has no merged cells and no arrays of several cells, of which the identity machine knows nothing
pub record IsPlain (grid : Grid) : Type 0 where
  pub merges : grid.merges ≡ []
  pub loose : (place : Place) (content : Content) → finite.get grid.contents place ≡ Some content → is_loose (shape_of content) ≡ true

-- each sheet of a whole book has none
abbrev pub IsPlainBook : machine.Book → Type 0
IsPlainBook book = AllByRecursion (λ (s : Sheet). IsPlain s.grid) book.sheets

-- A line left of a book what the identity machine leaves of its core, and nothing else beside the formulas that its sheets keep;
-- the whole machine's reply is the identity machine's; and no cells were merged and no array got several cells.
pub record DoesCoreLine (line : List ℕ) (old new : Book) : Type 0 where
  pub steps : StepsTo old new (identity_machine (notations_in old) (core_of old) line).0
  pub tells : (whole_machine (whole_of old) line).1 ≡ (identity_machine (notations_in old) (core_of old) line).1
  pub plain : IsPlainBook (whole_of new)

-- what left of the whole book what the whole machine leaves did so, where the line was a core line
abbrev pub CoreLinesAreDone : Type 0
CoreLinesAreDone = (line : List ℕ) (old new : ModelState) → LeavesLine line old new → IsPlainBook (whole_of old.book) → IsCore old.book.tables line → DoesCoreLine line old.book new.book
