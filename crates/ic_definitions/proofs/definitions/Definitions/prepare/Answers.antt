use Rattle.std.proofs.Common.{List, ap, ◌∙◌}
use Rattle.ic_definitions.specs.Bodies.{with_bodies}
use Rattle.ic_definitions.specs.declared.bodies.NewBody.{NewBody}
use Rattle.ic_definitions.proofs.MentionedBodies.{spared_bodies}
use Rattle.ic_definitions.proofs.definitions.Definitions.prepare.Goals as goal

pub returns-then-not-may_mention-clause-made : goal.returns-then-not-may_mention-clause-made
returns-then-not-may_mention-clause-made g c =
    ap (λ (news : List NewBody). with_bodies news c.args.self.now) c.no_rewrites.ensures.bodies
    ∙ spared_bodies (g.C.BookChange.change c.args.change.now) c.topic.result c.args.self.now c.topic.ensures (c.may_mention.ensures c.if-not-may_mention.true)
