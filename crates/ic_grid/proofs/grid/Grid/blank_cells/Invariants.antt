use Rattle.ic_grid.proofs.ChangeLemmas.{far}
use Rattle.ic_grid.proofs.WrittenLemmas.{IsWriting}
use Rattle.ic_grid.proofs.grid.Grid.blank_cells.Given as goal

-- the cells and the styles so far, and those of the places that are left
abbrev pub invariant-places : goal.invariant-places
invariant-places l = IsWriting l.self l.block l.f l.fn.styles l.items.items l.at l.styles

abbrev pub decreases-places : goal.decreases-places
decreases-places l = far l.block l.at
