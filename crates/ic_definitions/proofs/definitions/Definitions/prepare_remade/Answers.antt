use Rattle.std.proofs.Common.{[], ◌∷◌, List, ap, ◌∙◌}
use Rattle.ic_definitions.specs.Bodies.{with_bodies}
use Rattle.ic_definitions.specs.declared.bodies.NewBody.{NewBody}
use Rattle.ic_definitions.proofs.MentionedBodies.{none_touched, untouched_bodies}
use Rattle.ic_definitions.proofs.definitions.Definitions.prepare_remade.Goals as goal

pub returns-then-not-may_mention_either-clause-made : goal.returns-then-not-may_mention_either-clause-made
returns-then-not-may_mention_either-clause-made g c =
    ap (λ (news : List NewBody). with_bodies news c.args.self.now) c.no_rewrites.ensures.bodies
    ∙ untouched_bodies (g.R.Remaking.made c.args.remaking.now) (c.topics.result.0 ∷ c.topics.result.1 ∷ []) c.args.self.now c.topics.ensures c.requires (c.may_mention_either.ensures c.if-not-may_mention_either.true)

pub returns-then-not-may_mention_either-clause-listed : goal.returns-then-not-may_mention_either-clause-listed
returns-then-not-may_mention_either-clause-listed g c =
    c.no_rewrites.ensures.bodies ∙ none_touched (g.R.Remaking.made c.args.remaking.now) (c.topics.result.0 ∷ c.topics.result.1 ∷ []) 0 c.args.self.now c.topics.ensures (c.may_mention_either.ensures c.if-not-may_mention_either.true)
