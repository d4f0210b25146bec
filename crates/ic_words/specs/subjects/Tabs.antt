-- The commands on tabs and on the theme, as the code has them.
use Rattle.ic_machine.specs.subjects.Tabs as laws
use Rattle.ic_words.specs.Words.{color_meant}
use Rattle.ic_words.specs.declared.command.tabs.Tabs.{Tabs}
use Rattle.ic_words.specs.declared.command.tabs.Tabs.TheVariants as commands

abbrev pub tabs_meant : Tabs → laws.Tabs
tabs_meant (commands.SetTheme name) = laws.SetTheme name
tabs_meant commands.GetTheme = laws.GetTheme
tabs_meant (commands.SetFrozenRows sheet count) = laws.SetFrozenRows sheet count
tabs_meant (commands.SetFrozenColumns sheet count) = laws.SetFrozenColumns sheet count
tabs_meant (commands.GetFrozenRowsCount sheet) = laws.GetFrozenRowsCount sheet
tabs_meant (commands.GetFrozenColumnsCount sheet) = laws.GetFrozenColumnsCount sheet
tabs_meant (commands.SetSheetColor sheet color) = laws.SetSheetColor sheet (color_meant color)
tabs_meant (commands.SetSheetState sheet state) = laws.SetSheetState sheet state
tabs_meant (commands.SetShowGridLines sheet shows) = laws.SetShowGridLines sheet shows
