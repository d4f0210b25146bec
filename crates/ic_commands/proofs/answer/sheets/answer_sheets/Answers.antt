use Rattle.std.proofs.Common.{refl, rules}
use Rattle.ic_machine.specs.Command.{OnSheets}
use Rattle.ic_words.specs.subjects.Sheets.{sheets_meant}
use Rattle.ic_commands.proofs.AnswerLemmas.{changed, only_read}
use Rattle.ic_commands.proofs.answer.sheets.answer_sheets.Goals as goal

pub returns-in-AddSheet : goal.returns-in-AddSheet
returns-in-AddSheet c = changed (OnSheets (sheets_meant c.args.command)) refl c.told.ensures c.add_sheet.ensures.does (search rules) (search rules) refl

pub returns-in-InsertSheet : goal.returns-in-InsertSheet
returns-in-InsertSheet c = changed (OnSheets (sheets_meant c.args.command)) refl c.told-in-InsertSheet.ensures c.insert_sheet.ensures.does (search rules) (search rules) refl

pub returns-in-NewSheet : goal.returns-in-NewSheet
returns-in-NewSheet c = changed (OnSheets (sheets_meant c.args.command)) refl c.told_named.ensures c.new_sheet.ensures.does (search rules) (search rules) refl

pub returns-in-DuplicateSheet : goal.returns-in-DuplicateSheet
returns-in-DuplicateSheet c = changed (OnSheets (sheets_meant c.args.command)) refl c.told_named-in-DuplicateSheet.ensures c.duplicate_sheet.ensures.does (search rules) (search rules) refl

pub returns-in-RenameSheet : goal.returns-in-RenameSheet
returns-in-RenameSheet c = changed (OnSheets (sheets_meant c.args.command)) refl c.told-in-RenameSheet.ensures c.rename_sheet.ensures.does (search rules) (search rules) refl

pub returns-in-RenameSheetByIndex : goal.returns-in-RenameSheetByIndex
returns-in-RenameSheetByIndex c = changed (OnSheets (sheets_meant c.args.command)) refl c.told-in-RenameSheetByIndex.ensures c.rename_sheet_by_index.ensures.does (search rules) (search rules) refl

pub returns-in-MoveSheet : goal.returns-in-MoveSheet
returns-in-MoveSheet c = changed (OnSheets (sheets_meant c.args.command)) refl c.told-in-MoveSheet.ensures c.move_sheet.ensures.does (search rules) (search rules) refl

pub returns-in-DeleteSheet : goal.returns-in-DeleteSheet
returns-in-DeleteSheet c = changed (OnSheets (sheets_meant c.args.command)) refl c.told-in-DeleteSheet.ensures c.delete_sheet.ensures.does (search rules) (search rules) refl

pub returns-in-DeleteSheetByName : goal.returns-in-DeleteSheetByName
returns-in-DeleteSheetByName c = changed (OnSheets (sheets_meant c.args.command)) refl c.told-in-DeleteSheetByName.ensures c.delete_sheet_by_name.ensures.does (search rules) (search rules) refl

pub returns-in-DeleteSheetBySheetId : goal.returns-in-DeleteSheetBySheetId
returns-in-DeleteSheetBySheetId c = changed (OnSheets (sheets_meant c.args.command)) refl c.told-in-DeleteSheetBySheetId.ensures c.delete_sheet_by_sheet_id.ensures.does (search rules) (search rules) refl

pub returns-in-GetNewSheetId : goal.returns-in-GetNewSheetId
returns-in-GetNewSheetId c = only_read c.told-in-GetNewSheetId.ensures c.get_new_sheet_id.ensures.does (search rules)

pub returns-in-GetWorksheetsProperties : goal.returns-in-GetWorksheetsProperties
returns-in-GetWorksheetsProperties c = only_read c.told-in-GetWorksheetsProperties.ensures c.get_worksheets_properties.ensures.does (search rules)
