-- Commands as the code has them.
use Rattle.ic_machine.specs.Command as laws
use Rattle.ic_words.specs.subjects.Arrays.{arrays_meant}
use Rattle.ic_words.specs.subjects.Definitions.{definitions_meant}
use Rattle.ic_words.specs.subjects.Extending.{extending_meant}
use Rattle.ic_words.specs.subjects.Layout.{layout_meant}
use Rattle.ic_words.specs.subjects.Notation.{notation_meant}
use Rattle.ic_words.specs.subjects.Reading.{reading_meant}
use Rattle.ic_words.specs.subjects.Sheets.{sheets_meant}
use Rattle.ic_words.specs.subjects.Styles.{styles_meant}
use Rattle.ic_words.specs.subjects.Tabs.{tabs_meant}
use Rattle.ic_words.specs.subjects.Writing.{writing_meant}
use Rattle.ic_words.specs.declared.command.Command.{Command}
use Rattle.ic_words.specs.declared.command.Command.TheVariants as commands

-- the command that is meant
abbrev pub command_meant : Command → laws.Command
command_meant (commands.Sheets command) = laws.OnSheets (sheets_meant command)
command_meant (commands.Definitions command) = laws.OnDefinitions (definitions_meant command)
command_meant (commands.Notation command) = laws.OnNotation (notation_meant command)
command_meant (commands.Writing command) = laws.OnWriting (writing_meant command)
command_meant (commands.Reading command) = laws.OnReading (reading_meant command)
command_meant (commands.Extending command) = laws.OnExtending (extending_meant command)
command_meant (commands.Styles command) = laws.OnStyles (styles_meant command)
command_meant (commands.Layout command) = laws.OnLayout (layout_meant command)
command_meant (commands.Tabs command) = laws.OnTabs (tabs_meant command)
command_meant (commands.Arrays command) = laws.OnArrays (arrays_meant command)
