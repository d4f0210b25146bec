-- The commands on styles, as the code has them.
use Rattle.ic_machine.specs.subjects.Styles as laws
use Rattle.ic_words.specs.Styling.{style_meant}
use Rattle.ic_words.specs.declared.command.styles.Styles.{Styles}
use Rattle.ic_words.specs.declared.command.styles.Styles.TheVariants as commands

abbrev pub styles_meant : Styles → laws.Styles
styles_meant (commands.GetCellStyleIndex sheet row column) = laws.GetCellStyleIndex sheet row column
styles_meant (commands.GetStyleForCell sheet row column) = laws.GetStyleForCell sheet row column
styles_meant (commands.GetCellStyleOrNone sheet row column) = laws.GetCellStyleOrNone sheet row column
styles_meant (commands.SetColumnStyle sheet column style) = laws.SetColumnStyle sheet column (style_meant style)
styles_meant (commands.SetRowStyle sheet row style) = laws.SetRowStyle sheet row (style_meant style)
styles_meant (commands.GetColumnStyle sheet column) = laws.GetColumnStyle sheet column
styles_meant (commands.GetRowStyle sheet row) = laws.GetRowStyle sheet row
styles_meant (commands.DeleteColumnStyle sheet column) = laws.DeleteColumnStyle sheet column
styles_meant (commands.DeleteRowStyle sheet row) = laws.DeleteRowStyle sheet row
