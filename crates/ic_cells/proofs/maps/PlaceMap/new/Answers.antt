use Rattle.std.proofs.Common.{ap}
use Rattle.std.specs.FinMap.{from_entries}
use Rattle.ic_cells.proofs.ColumnLemmas.{none_marked}
use Rattle.ic_cells.specs.Maps.{place_cmp}
use Rattle.ic_cells.proofs.maps.PlaceMap.new.Goals as goal

pub invariant_of-result : goal.invariant_of-result
invariant_of-result g c = none_marked 0 _ (ap (from_entries {R = place_cmp}) c.new.ensures.empty)
