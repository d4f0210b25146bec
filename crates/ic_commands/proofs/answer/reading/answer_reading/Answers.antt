use Rattle.std.proofs.Common.{rules}
use Rattle.ic_commands.proofs.AnswerLemmas.{only_read}
use Rattle.ic_commands.proofs.answer.reading.answer_reading.Goals as goal

pub returns-in-GetCellFormula : goal.returns-in-GetCellFormula
returns-in-GetCellFormula c = only_read c.told.ensures c.get_cell_formula.ensures.does (search rules)

pub returns-in-GetLocalizedCellContent : goal.returns-in-GetLocalizedCellContent
returns-in-GetLocalizedCellContent c = only_read c.told-in-GetLocalizedCellContent.ensures c.get_localized_cell_content.ensures.does (search rules)

pub returns-in-GetFormattedCellValue : goal.returns-in-GetFormattedCellValue
returns-in-GetFormattedCellValue c = only_read c.told-in-GetFormattedCellValue.ensures c.get_formatted_cell_value.ensures.does (search rules)

pub returns-in-GetCellValueByIndex : goal.returns-in-GetCellValueByIndex
returns-in-GetCellValueByIndex c = only_read c.told-in-GetCellValueByIndex.ensures c.get_cell_value_by_index.ensures.does (search rules)

pub returns-in-GetCellValueByRef : goal.returns-in-GetCellValueByRef
returns-in-GetCellValueByRef c = only_read c.told-in-GetCellValueByRef.ensures c.get_cell_value_by_ref.ensures.does (search rules)

pub returns-in-GetCellType : goal.returns-in-GetCellType
returns-in-GetCellType c = only_read c.told-in-GetCellType.ensures c.get_cell_type.ensures.does (search rules)

pub returns-in-IsEmptyCell : goal.returns-in-IsEmptyCell
returns-in-IsEmptyCell c = only_read c.told-in-IsEmptyCell.ensures c.is_empty_cell.ensures.does (search rules)

pub returns-in-GetAllCells : goal.returns-in-GetAllCells
returns-in-GetAllCells c = only_read c.told-in-GetAllCells.ensures c.get_all_cells.ensures.does (search rules)

pub returns-in-GetSheetMarkup : goal.returns-in-GetSheetMarkup
returns-in-GetSheetMarkup c = only_read c.told-in-GetSheetMarkup.ensures c.sheet_markup.ensures.does (search rules)
