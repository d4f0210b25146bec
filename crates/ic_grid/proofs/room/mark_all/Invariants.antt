use Rattle.ic_grid.proofs.ChangeLemmas.{far}
use Rattle.ic_grid.proofs.RoomLemmas.{IsMarking}
use Rattle.ic_grid.proofs.room.mark_all.Given as goal

-- placeholders stand up to here
abbrev pub invariant-places : goal.invariant-places
invariant-places l = IsMarking l.block l.fn.cells l.cells l.at

abbrev pub decreases-places : goal.decreases-places
decreases-places l = far l.block l.at
