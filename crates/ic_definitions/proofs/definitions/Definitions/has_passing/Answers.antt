use Rattle.std.proofs.Common.{[], ◌∷◌}
use Rattle.ic_definitions.proofs.MentionedBodies.{none_passes}
use Rattle.ic_definitions.proofs.definitions.Definitions.has_passing.Goals as goal

pub returns-then-not-may_mention_either : goal.returns-then-not-may_mention_either
returns-then-not-may_mention_either g c =
    none_passes (g.T.FormulaTest.passing c.args.test.now) (c.topics.result.0 ∷ c.topics.result.1 ∷ []) c.args.self.now c.topics.ensures (c.may_mention_either.ensures c.if-not-may_mention_either.true)
