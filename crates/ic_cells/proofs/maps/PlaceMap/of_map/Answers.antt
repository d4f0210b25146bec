use Rattle.ic_cells.proofs.ColumnLemmas.{all_set}
use Rattle.ic_cells.proofs.maps.PlaceMap.of_map.Goals as goal

pub invariant_of-result : goal.invariant_of-result
invariant_of-result g c = λ p some. all_set p.1
