use Rattle.ic_definitions.proofs.BodyLemmas.{NotedTo}
use Rattle.ic_definitions.proofs.bodies.rewrites_remade.Given as goal

abbrev pub invariant-loop-at : goal.invariant-loop-at
invariant-loop-at g l = NotedTo (g.R.Remaking.made l.remaking) l.definitions l.at l.rewrites
