use Rattle.std.proofs.Common.{ap, chars, is_some, ◌∙◌}
use Rattle.std.specs.Prelude.{Some}
use Rattle.ic_laws.specs.CoreStep.{is_named}
use Rattle.ic_definitions.proofs.NamesFacts.{position_any}
use Rattle.ic_changes.proofs.CopiedDefinitions.{local_named}
use Rattle.ic_changes.proofs.sheet_copies.definitions.has_local.Goals as goal

pub returns : goal.returns
returns c =
    c.is_some.ensures ∙ ap is_some c.index_of.ensures ∙ position_any (is_named (chars c.args.name.now) (Some c.args.id)) c.args.definitions.now.definitions.now ∙ local_named (chars c.args.name.now) c.args.id c.args.definitions.now.definitions.now
