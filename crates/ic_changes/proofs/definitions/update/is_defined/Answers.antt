use Rattle.std.proofs.Common.{ap, chars, is_some, ◌∙◌}
use Rattle.ic_laws.specs.CoreStep.{is_named}
use Rattle.ic_definitions.proofs.NamesFacts.{position_any}
use Rattle.ic_changes.proofs.definitions.update.is_defined.Goals as goal

pub returns : goal.returns
returns c = c.is_some.ensures ∙ ap is_some c.index_of.ensures ∙ position_any (is_named (chars c.args.name.now) c.args.scope) c.args.definitions.now.definitions.now
