use Rattle.std.proofs.Common.{◌∙◌, ℤ, refl}
use Rattle.std.specs.FinMap.{from_entries}
use Rattle.ic_cells.proofs.ColumnLemmas.{removed_marked}
use Rattle.ic_cells.proofs.MapLemmas.{map_remove, places_exact, places_total, read_at, stored_pair}
use Rattle.ic_cells.specs.Maps.{place_cmp}
use Rattle.ic_cells.proofs.maps.PlaceMap.remove.Goals as goal

pub invariant_of-self : goal.invariant_of-self
invariant_of-self g c =
    let m = from_entries {R = place_cmp} c.self.inside.inner.entries in
    let place : ℤ × ℤ = (c.args.row, c.args.column) in
    let pair = stored_pair c.args.row c.args.column c.ranges.row c.ranges.column in
    removed_marked c.self.inside.marks m c.self.invariant place _
    (map_remove places_total places_exact c.self.inside.inner c.remove.new.self m _ place pair refl c.remove.ensures.updates)

pub returns-clause-before : goal.returns-clause-before
returns-clause-before g c = c.remove.ensures.value ∙ read_at places_total c.self.inside.inner c.args.self.now _ (c.args.row, c.args.column) (stored_pair c.args.row c.args.column c.ranges.row c.ranges.column) c.self.view_is

pub returns-clause-removed : goal.returns-clause-removed
returns-clause-removed g c =
    map_remove places_total places_exact c.self.inside.inner c.remove.new.self c.args.self.now _ (c.args.row, c.args.column) (stored_pair c.args.row c.args.column c.ranges.row c.ranges.column) c.self.view_is c.remove.ensures.updates
