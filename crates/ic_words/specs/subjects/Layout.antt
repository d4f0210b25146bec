-- The commands on the layout of rows and columns, as the code has them.
use Rattle.ic_machine.specs.subjects.Layout as laws
use Rattle.ic_words.specs.declared.command.layout.Layout.{Layout}
use Rattle.ic_words.specs.declared.command.layout.Layout.TheVariants as commands

abbrev pub layout_meant : Layout → laws.Layout
layout_meant (commands.SetColumnWidth sheet column width) = laws.SetColumnWidth sheet column width
layout_meant (commands.SetRowHeight sheet row height) = laws.SetRowHeight sheet row height
layout_meant (commands.GetColumnWidth sheet column) = laws.GetColumnWidth sheet column
layout_meant (commands.GetRowHeight sheet row) = laws.GetRowHeight sheet row
layout_meant (commands.SetColumnHidden sheet column hidden) = laws.SetColumnHidden sheet column hidden
layout_meant (commands.SetRowHidden sheet row hidden) = laws.SetRowHidden sheet row hidden
layout_meant (commands.IsColumnHidden sheet column) = laws.IsColumnHidden sheet column
layout_meant (commands.IsRowHidden sheet row) = laws.IsRowHidden sheet row
