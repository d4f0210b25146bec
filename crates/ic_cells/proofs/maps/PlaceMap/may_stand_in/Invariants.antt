use Rattle.ic_cells.specs.Maps.{HasNoneBetween}
use Rattle.ic_cells.proofs.maps.PlaceMap.may_stand_in.Given as goal

-- nothing stands in the columns so far
abbrev pub invariant-loop-column : goal.invariant-loop-column
invariant-loop-column g l = HasNoneBetween l.self l.from l.column
