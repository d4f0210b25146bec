use Rattle.std.proofs.Common.{rules}
use Rattle.ic_commands.proofs.AnswerLemmas.{only_read}
use Rattle.ic_commands.proofs.answer.extending.answer_extending.Goals as goal

pub returns-in-ExtendTo : goal.returns-in-ExtendTo
returns-in-ExtendTo c = only_read c.told.ensures c.extend_to.ensures.does (search rules)

pub returns-in-ExtendCopiedValue : goal.returns-in-ExtendCopiedValue
returns-in-ExtendCopiedValue c = only_read c.told-in-ExtendCopiedValue.ensures c.extend_copied_value.ensures.does (search rules)

pub returns-in-ParseReference : goal.returns-in-ParseReference
returns-in-ParseReference c = only_read c.told-in-ParseReference.ensures c.parse_reference.ensures.does (search rules)
