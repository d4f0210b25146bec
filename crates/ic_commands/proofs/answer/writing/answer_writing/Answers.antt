use Rattle.std.proofs.Common.{refl, rules}
use Rattle.ic_machine.specs.Command.{OnWriting}
use Rattle.ic_words.specs.subjects.Writing.{writing_meant}
use Rattle.ic_commands.proofs.AnswerLemmas.{changed}
use Rattle.ic_commands.proofs.answer.writing.answer_writing.Goals as goal

pub returns-in-SetUserInput : goal.returns-in-SetUserInput
returns-in-SetUserInput c = changed (OnWriting (writing_meant c.args.command)) refl c.told.ensures c.type_text.ensures.does (search rules) (search rules) refl

pub returns-in-UpdateCellWithText : goal.returns-in-UpdateCellWithText
returns-in-UpdateCellWithText c = changed (OnWriting (writing_meant c.args.command)) refl c.told-in-UpdateCellWithText.ensures c.update_cell_with_text.ensures.does (search rules) (search rules) refl

pub returns-in-UpdateCellWithFormula : goal.returns-in-UpdateCellWithFormula
returns-in-UpdateCellWithFormula c = changed (OnWriting (writing_meant c.args.command)) refl c.told-in-UpdateCellWithFormula.ensures c.type_formula.ensures.does (search rules) (search rules) refl

pub returns-in-UpdateCellWithBool : goal.returns-in-UpdateCellWithBool
returns-in-UpdateCellWithBool c = changed (OnWriting (writing_meant c.args.command)) refl c.told-in-UpdateCellWithBool.ensures c.update_cell_with_bool.ensures.does (search rules) (search rules) refl

pub returns-in-UpdateCellWithNumber : goal.returns-in-UpdateCellWithNumber
returns-in-UpdateCellWithNumber c = changed (OnWriting (writing_meant c.args.command)) refl c.told-in-UpdateCellWithNumber.ensures c.update_cell_with_number.ensures.does (search rules) (search rules) refl
