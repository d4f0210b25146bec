use Rattle.std.proofs.Common.{subst}
use Rattle.std.specs.List.{AllByRecursion}
use Rattle.ic_definitions.specs.Bodies.{HasFoundAll}
use Rattle.ic_definitions.proofs.BodyLemmas.{nothing_makes}
use Rattle.ic_definitions.proofs.definitions.Definitions.prepare_dangling.Goals as goal

pub returns-then-not-self-clause-made : goal.returns-then-not-self-clause-made
returns-then-not-self-clause-made g c =
    nothing_makes (g.C.BookChange.change c.args.change.now) c.args.self.now c.no_rewrites.result.bodies.items c.requires
    (subst (AllByRecursion HasFoundAll) c.self.view_is (c.self.invariant.0.dangles c.if-not-self.true)) c.no_rewrites.ensures.bodies
