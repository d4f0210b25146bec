-- The commands on the list of sheets, as the code has them.
use Rattle.ic_machine.specs.subjects.Sheets as laws
use Rattle.ic_words.specs.declared.command.sheets.Sheets.{Sheets}
use Rattle.ic_words.specs.declared.command.sheets.Sheets.TheVariants as commands

abbrev pub sheets_meant : Sheets → laws.Sheets
sheets_meant (commands.AddSheet name) = laws.AddSheet name
sheets_meant (commands.InsertSheet name index id) = laws.InsertSheet name index id
sheets_meant commands.NewSheet = laws.NewSheet
sheets_meant (commands.DuplicateSheet sheet) = laws.DuplicateSheet sheet
sheets_meant (commands.RenameSheet old new) = laws.RenameSheet old new
sheets_meant (commands.RenameSheetByIndex sheet name) = laws.RenameSheetByIndex sheet name
sheets_meant (commands.MoveSheet sheet to) = laws.MoveSheet sheet to
sheets_meant (commands.DeleteSheet sheet) = laws.DeleteSheet sheet
sheets_meant (commands.DeleteSheetByName name) = laws.DeleteSheetByName name
sheets_meant (commands.DeleteSheetBySheetId id) = laws.DeleteSheetBySheetId id
sheets_meant commands.GetNewSheetId = laws.GetNewSheetId
sheets_meant commands.GetWorksheetsProperties = laws.GetWorksheetsProperties
