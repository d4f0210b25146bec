-- The commands that read cells, as the code has them.
use Rattle.ic_machine.specs.subjects.Reading as laws
use Rattle.ic_words.specs.declared.command.reading.Reading.{Reading}
use Rattle.ic_words.specs.declared.command.reading.Reading.TheVariants as commands

abbrev pub reading_meant : Reading → laws.Reading
reading_meant (commands.GetCellFormula sheet row column) = laws.GetCellFormula sheet row column
reading_meant (commands.GetLocalizedCellContent sheet row column) = laws.GetLocalizedCellContent sheet row column
reading_meant (commands.GetFormattedCellValue sheet row column) = laws.GetFormattedCellValue sheet row column
reading_meant (commands.GetCellValueByIndex sheet row column) = laws.GetCellValueByIndex sheet row column
reading_meant (commands.GetCellValueByRef text) = laws.GetCellValueByRef text
reading_meant (commands.GetCellType sheet row column) = laws.GetCellType sheet row column
reading_meant (commands.IsEmptyCell sheet row column) = laws.IsEmptyCell sheet row column
reading_meant commands.GetAllCells = laws.GetAllCells
reading_meant (commands.GetSheetMarkup sheet) = laws.GetSheetMarkup sheet
