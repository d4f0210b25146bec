use Rattle.std.proofs.Common.{subst}
use Rattle.ic_definitions.specs.Mentioned.{KnowsBodies}
use Rattle.ic_definitions.proofs.MentionedBodies.{none_mentions}
use Rattle.ic_definitions.proofs.definitions.Definitions.may_mention.Goals as goal

pub returns : goal.returns
returns c = λ e. none_mentions c.self.inside.mentioned c.args.topic c.args.self.now (c.may_have.ensures e) (subst (KnowsBodies c.self.inside.mentioned) c.self.view_is c.self.invariant.1)
