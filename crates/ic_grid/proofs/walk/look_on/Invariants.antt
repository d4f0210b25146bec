use Rattle.std.proofs.Common.{length}
use Rattle.ic_grid.proofs.PassLemmas.{Ahead}
use Rattle.ic_grid.proofs.walk.look_on.Given as goal

-- no place behind is wanted
abbrev pub invariant-loop-place : goal.invariant-loop-place
invariant-loop-place l = Ahead l.map l.wanted l.block l.fn.from l.cells

abbrev pub decreases-loop-place : goal.decreases-loop-place
decreases-loop-place l = length l.cells
