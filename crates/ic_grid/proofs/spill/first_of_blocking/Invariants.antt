use Rattle.ic_grid.proofs.SpillLemmas.{IsSeeking}
use Rattle.ic_grid.proofs.spill.first_of_blocking.Given as goal

-- none so far
abbrev pub invariant-loop-turn : goal.invariant-loop-turn
invariant-loop-turn l = IsSeeking l.merges l.cells l.block l.count l.turn l.anchor l.at
