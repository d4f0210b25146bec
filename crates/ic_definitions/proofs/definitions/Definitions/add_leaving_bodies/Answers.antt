use Rattle.std.proofs.Common.{◌≡◌, ◌++◌, ◌∷◌, [], List, subst}
use Rattle.std.specs.Result.{OnOk}
use Rattle.ic_definitions.specs.Bodies.{with_bodies}
use Rattle.ic_definitions.specs.declared.bodies.NewBody.{NewBody}
use Rattle.ic_definitions.proofs.definitions.Definitions.add_leaving_bodies.Goals as goal

pub returns-clause-ok : goal.returns-clause-ok
returns-clause-ok c =
    subst (λ (news : List NewBody). OnOk c.add_prepared.result (c.add_prepared.new.self ≡ with_bodies news c.args.self.now ++ c.args.definition ∷ [])) c.no_rewrites-nothing.ensures.bodies c.add_prepared.ensures.ok
