use Rattle.std.proofs.Common.{length}
use Rattle.ic_c.proofs.RunLemmas.{Ran}
use Rattle.ic_c.proofs.session.Open.run.Given as goal

abbrev pub invariant-lines : goal.invariant-lines
invariant-lines l = Ran l.bytes l.rest l.fn.self l.self

abbrev pub decreases-lines : goal.decreases-lines
decreases-lines l = length l.rest
