-- All commands: one table, joined from those of ten subjects, what each does, and the command that a line is.
use Rattle.std.specs.Prelude.{ℕ, List, ◌++◌, map, Option}
use Rattle.ic_laws.specs.Lines as lines
use Rattle.ic_machine.specs.Action.{Action, Asks, ChangesCells}
use Rattle.ic_machine.specs.Row.{Row, row_in, spelled}
use Rattle.ic_machine.specs.subjects.Arrays.{Arrays, array_rows, arrays_action}
use Rattle.ic_machine.specs.subjects.Definitions.{Definitions, definition_action, definition_rows}
use Rattle.ic_machine.specs.subjects.Extending.{Extending, extending_rows, extending_step}
use Rattle.ic_machine.specs.subjects.Layout.{Layout, layout_action, layout_rows}
use Rattle.ic_machine.specs.subjects.Notation.{Notation, notation_action, notation_rows}
use Rattle.ic_machine.specs.subjects.Reading.{Reading, reading_rows, reading_step}
use Rattle.ic_machine.specs.subjects.Sheets.{Sheets, sheet_action, sheet_rows}
use Rattle.ic_machine.specs.subjects.Styles.{Styles, style_action, style_rows}
use Rattle.ic_machine.specs.subjects.Tabs.{Tabs, tab_action, tab_rows}
use Rattle.ic_machine.specs.subjects.Writing.{Writing, writing_rows, writing_step}

pub data Command : Type 0 where
  OnSheets : Sheets → Command
  OnDefinitions : Definitions → Command
  OnNotation : Notation → Command
  OnWriting : Writing → Command
  OnReading : Reading → Command
  OnExtending : Extending → Command
  OnStyles : Styles → Command
  OnLayout : Layout → Command
  OnTabs : Tabs → Command
  OnArrays : Arrays → Command

-- what each does: all commands that read cells, and those that write a formula out for another, only ask
abbrev pub action : Command → Action
action (OnSheets command) = sheet_action command
action (OnDefinitions command) = definition_action command
action (OnNotation command) = notation_action command
action (OnWriting command) = ChangesCells (λ book. writing_step book command)
action (OnReading command) = Asks (λ book. reading_step book command)
action (OnExtending command) = Asks (λ book. extending_step book command)
action (OnStyles command) = style_action command
action (OnLayout command) = layout_action command
action (OnTabs command) = tab_action command
action (OnArrays command) = arrays_action command

-- the whole table
unfoldable pub commands : List (Row Command)
commands =
    map (row_in OnSheets) sheet_rows ++ (map (row_in OnDefinitions) definition_rows ++ (map (row_in OnNotation) notation_rows
    ++ (map (row_in OnWriting) writing_rows ++ (map (row_in OnReading) reading_rows ++ (map (row_in OnExtending) extending_rows
    ++ (map (row_in OnStyles) style_rows ++ (map (row_in OnLayout) layout_rows ++ (map (row_in OnTabs) tab_rows ++ map (row_in OnArrays) array_rows))))))))

-- the command that a line is by a table, if it is one, by the English words of the error values
abbrev pub command_in : List (List ℕ) → List (Row Command) → List ℕ → Option Command
command_in english rows line = spelled english rows (lines.words_of line)
