use Rattle.std.proofs.Common.{◌∙◌, ℤ, ap, refl, rules, sym}
use Rattle.std.specs.FinMap.{from_entries}
use Rattle.ic_cells.proofs.ColumnLemmas.{insert_marked, left_marked}
use Rattle.ic_cells.proofs.MapLemmas.{map_insert, on_any_error, places_exact, places_total, read_at, stored, stored_pair}
use Rattle.ic_cells.specs.Maps.{column_mark, place_cmp}
use Rattle.ic_cells.proofs.maps.PlaceMap.insert.Goals as goal

pub invariant_of-self : goal.invariant_of-self
invariant_of-self g c =
    let one = c.mark_of.ensures ∙ ap column_mark (stored c.args.column c.ranges.column) in
    left_marked c.self.inside.marks (from_entries c.self.inside.inner.entries) c.self.invariant c.mark_of.result c.args.column one _
    (ap (from_entries {R = place_cmp}) (search rules))

pub invariant_of-self-2 : goal.invariant_of-self-2
invariant_of-self-2 g c =
    let m = from_entries {R = place_cmp} c.self.inside.inner.entries in
    let place : ℤ × ℤ = (c.args.row, c.args.column) in
    let one = c.mark_of.ensures ∙ ap column_mark (stored c.args.column c.ranges.column) in
    let pair = stored_pair c.args.row c.args.column c.ranges.row c.ranges.column in
    insert_marked c.self.inside.marks m c.self.invariant c.mark_of.result c.args.column one c.args.row c.args.item _
    (map_insert places_total places_exact c.self.inside.inner c.insert.new.self m _ place c.args.item pair refl c.in_ok-insert.ensures.updates)

pub returns-in_err-insert-clause-absent : goal.returns-in_err-insert-clause-absent
returns-in_err-insert-clause-absent g c =
    on_any_error c.from_residual.result (sym (read_at places_total c.self.inside.inner c.args.self.now _ (c.args.row, c.args.column) (stored_pair c.args.row c.args.column c.ranges.row c.ranges.column) c.self.view_is) ∙ c.in_err-insert.ensures.absent)

pub returns-clause-before : goal.returns-clause-before
returns-clause-before g c = c.in_ok-insert.ensures.old ∙ read_at places_total c.self.inside.inner c.args.self.now _ (c.args.row, c.args.column) (stored_pair c.args.row c.args.column c.ranges.row c.ranges.column) c.self.view_is

pub returns-clause-ok : goal.returns-clause-ok
returns-clause-ok g c =
    map_insert places_total places_exact c.self.inside.inner c.insert.new.self c.args.self.now _ (c.args.row, c.args.column) c.args.item (stored_pair c.args.row c.args.column c.ranges.row c.ranges.column) c.self.view_is c.in_ok-insert.ensures.updates
