use Rattle.ic_grid.proofs.HandedInLemmas.{AreApartTo}
use Rattle.ic_grid.proofs.handed_in.are_apart.Given as goal

-- those so far have no cell in common
abbrev pub invariant-loop-index : goal.invariant-loop-index
invariant-loop-index l = AreApartTo l.merges l.index
