use Rattle.ic_grid.proofs.HandedInLemmas.{AreSo}
use Rattle.ic_grid.specs.HandedIn.{IsRowFilled}
use Rattle.ic_grid.specs.Shape.{celled}
use Rattle.ic_grid.proofs.whole.is_filled.Given as goal

-- those so far are
abbrev pub invariant-loop-row : goal.invariant-loop-row
invariant-loop-row l = AreSo (IsRowFilled celled l.cells l.block) l.block.row l.row
