use Rattle.std.proofs.Common.{◌∙◌}
use Rattle.ic_cells.proofs.MapLemmas.{places_total, read_at, stored_pair}
use Rattle.ic_cells.proofs.maps.PlaceMap.get.Goals as goal

pub returns : goal.returns
returns g c = c.get.ensures.value ∙ read_at places_total c.self.inside.inner c.args.self.now _ (c.args.row, c.args.column) (stored_pair c.args.row c.args.column c.ranges.row c.ranges.column) c.self.view_is
