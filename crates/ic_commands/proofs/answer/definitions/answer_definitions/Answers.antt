use Rattle.std.proofs.Common.{refl, rules}
use Rattle.ic_machine.specs.Command.{OnDefinitions}
use Rattle.ic_words.specs.subjects.Definitions.{definitions_meant}
use Rattle.ic_commands.proofs.AnswerLemmas.{changed, only_read}
use Rattle.ic_commands.proofs.answer.definitions.answer_definitions.Goals as goal

pub returns-in-NewDefinedName : goal.returns-in-NewDefinedName
returns-in-NewDefinedName c = changed (OnDefinitions (definitions_meant c.args.command)) refl c.told.ensures c.new_defined_name.ensures.does (search rules) (search rules) refl

pub returns-in-DeleteDefinedName : goal.returns-in-DeleteDefinedName
returns-in-DeleteDefinedName c = changed (OnDefinitions (definitions_meant c.args.command)) refl c.told-in-DeleteDefinedName.ensures c.delete_defined_name.ensures.does (search rules) (search rules) refl

pub returns-in-UpdateDefinedName : goal.returns-in-UpdateDefinedName
returns-in-UpdateDefinedName c = changed (OnDefinitions (definitions_meant c.args.command)) refl c.told-in-UpdateDefinedName.ensures c.update_defined_name.ensures.does (search rules) (search rules) refl

pub returns-in-WouldCapture : goal.returns-in-WouldCapture
returns-in-WouldCapture c = only_read c.told-in-WouldCapture.ensures c.would_capture.ensures.does (search rules)

pub returns-in-GetDefinedNameList : goal.returns-in-GetDefinedNameList
returns-in-GetDefinedNameList c = only_read c.told-in-GetDefinedNameList.ensures c.get_defined_name_list.ensures.does (search rules)
