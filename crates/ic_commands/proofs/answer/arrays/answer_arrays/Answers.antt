use Rattle.std.proofs.Common.{refl, rules}
use Rattle.ic_machine.specs.Command.{OnArrays}
use Rattle.ic_words.specs.subjects.Arrays.{arrays_meant}
use Rattle.ic_commands.proofs.AnswerLemmas.{changed}
use Rattle.ic_commands.proofs.answer.arrays.answer_arrays.Goals as goal

pub returns-in-SetUserArrayFormula : goal.returns-in-SetUserArrayFormula
returns-in-SetUserArrayFormula c = changed (OnArrays (arrays_meant c.args.command)) refl c.told.ensures c.set_user_array_formula.ensures.does (search rules) (search rules) refl

pub returns-in-RangeClearContents : goal.returns-in-RangeClearContents
returns-in-RangeClearContents c = changed (OnArrays (arrays_meant c.args.command)) refl c.told-in-RangeClearContents.ensures c.range_clear_contents.ensures.does (search rules) (search rules) refl

pub returns-in-RangeClearAll : goal.returns-in-RangeClearAll
returns-in-RangeClearAll c = changed (OnArrays (arrays_meant c.args.command)) refl c.told-in-RangeClearAll.ensures c.range_clear_all.ensures.does (search rules) (search rules) refl

pub returns-in-PutFormulaValue : goal.returns-in-PutFormulaValue
returns-in-PutFormulaValue c = changed (OnArrays (arrays_meant c.args.command)) refl c.told-in-PutFormulaValue.ensures c.put_formula_value.ensures.does (search rules) (search rules) refl

pub returns-in-PutSpill : goal.returns-in-PutSpill
returns-in-PutSpill c = changed (OnArrays (arrays_meant c.args.command)) refl c.told-in-PutSpill.ensures c.put_spill.ensures.does (search rules) (search rules) refl
