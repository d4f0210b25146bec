use Rattle.std.proofs.Common.{sym, rules}
use Rattle.ic_cells.proofs.MapLemmas.{none_behind, places_total, stored_pair}
use Rattle.ic_cells.proofs.maps.PlaceMap.get_from_last.Goals as goal

pub returns-then-lt : goal.returns-then-lt
returns-then-lt g c =
    sym (none_behind places_total c.self.inside.inner c.args.self.now c.in-Some.last.now _ (c.args.row, c.args.column) (stored_pair c.args.row c.args.column c.ranges.row c.ranges.column) c.self.view_is c.in-Some.ensures.greatest (search rules))
