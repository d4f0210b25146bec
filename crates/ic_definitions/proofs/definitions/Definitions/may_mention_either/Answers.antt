use Rattle.std.proofs.Common.{subst}
use Rattle.ic_definitions.specs.Mentioned.{KnowsBodies}
use Rattle.ic_definitions.proofs.MentionedBodies.{neither_mentions}
use Rattle.ic_definitions.proofs.definitions.Definitions.may_mention_either.Goals as goal

pub returns-else-may_have : goal.returns-else-may_have
returns-else-may_have c = λ e.
    neither_mentions c.self.inside.mentioned c.args.topics.0 c.args.topics.1 c.args.self.now (c.may_have.ensures c.if-may_have.false) (c.may_have-else-may_have.ensures e) (subst (KnowsBodies c.self.inside.mentioned) c.self.view_is c.self.invariant.1)
