-- The commands on definitions, as the code has them.
use Rattle.ic_machine.specs.Word.{AllSaid, Done, OfScope, OfText, Then}
use Rattle.ic_machine.specs.subjects.Definitions as laws
use Rattle.ic_machine.specs.subjects.Definitions.{update_of}
use Rattle.ic_words.specs.declared.command.definitions.DefinitionUpdate.{DefinitionUpdate}
use Rattle.ic_words.specs.declared.command.definitions.Definitions.{Definitions}
use Rattle.ic_words.specs.declared.command.definitions.Definitions.TheVariants as commands

-- what the words of an update say, one after another
abbrev pub update_words : DefinitionUpdate → AllSaid (Then OfText (Then OfScope (Then OfText (Then OfScope (Then OfText Done)))))
update_words update = (update.name, (update.scope, (update.new_name, (update.new_scope, (update.body, tt)))))

-- the update that is meant
abbrev pub update_meant : DefinitionUpdate → laws.Update
update_meant update = update_of update.name update.scope update.new_name update.new_scope update.body

abbrev pub definitions_meant : Definitions → laws.Definitions
definitions_meant (commands.NewDefinedName name scope body) = laws.NewDefinedName name scope body
definitions_meant (commands.DeleteDefinedName name scope) = laws.DeleteDefinedName name scope
definitions_meant (commands.UpdateDefinedName update) = laws.UpdateDefinedName (update_meant update)
definitions_meant (commands.WouldCapture update) = laws.WouldCaptureName (update_meant update)
definitions_meant (commands.IsValidDefinedName name scope body) = laws.IsValidDefinedName name scope body
definitions_meant commands.GetDefinedNameList = laws.GetDefinedNameList
