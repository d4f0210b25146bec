use Rattle.ic_definitions.proofs.BodyLemmas.{NotedTo, made_by}
use Rattle.ic_definitions.proofs.bodies.rewrites_of.Given as goal

abbrev pub invariant-loop-at : goal.invariant-loop-at
invariant-loop-at g l = NotedTo (made_by (g.C.BookChange.change l.change)) l.definitions l.at l.rewrites
