-- The commands that write a cell, as the code has them.
use Rattle.ic_machine.specs.subjects.Writing as laws
use Rattle.ic_words.specs.declared.command.writing.Writing.{Writing}
use Rattle.ic_words.specs.declared.command.writing.Writing.TheVariants as commands

abbrev pub writing_meant : Writing → laws.Writing
writing_meant (commands.SetUserInput sheet row column text) = laws.SetUserInput sheet row column text
writing_meant (commands.UpdateCellWithText sheet row column text) = laws.UpdateCellWithText sheet row column text
writing_meant (commands.UpdateCellWithFormula sheet row column text) = laws.UpdateCellWithFormula sheet row column text
writing_meant (commands.UpdateCellWithBool sheet row column truth) = laws.UpdateCellWithBool sheet row column truth
writing_meant (commands.UpdateCellWithNumber sheet row column amount) = laws.UpdateCellWithNumber sheet row column amount
