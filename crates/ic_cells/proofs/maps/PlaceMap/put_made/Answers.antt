use Rattle.std.proofs.Common.{◌∙◌, ℤ, ap, is_some, refl, rules, sym}
use Rattle.std.specs.FinMap.{from_entries}
use Rattle.ic_cells.proofs.ColumnLemmas.{insert_marked, left_marked}
use Rattle.ic_cells.proofs.MapLemmas.{map_filled, map_left, places_exact, places_total, read_at, stored, stored_pair}
use Rattle.ic_cells.specs.Maps.{column_mark, place_cmp}
use Rattle.ic_cells.proofs.maps.PlaceMap.put_made.Goals as goal

pub invariant_of-self : goal.invariant_of-self
invariant_of-self g c =
    let one = c.mark_of.ensures ∙ ap column_mark (stored c.args.column c.ranges.column) in
    left_marked c.self.inside.marks (from_entries c.self.inside.inner.entries) c.self.invariant c.mark_of.result c.args.column one _
    (ap (from_entries {R = place_cmp}) (search rules))

pub invariant_of-self-in_default : goal.invariant_of-self-in_default
invariant_of-self-in_default g c =
    let one = c.mark_of.ensures ∙ ap column_mark (stored c.args.column c.ranges.column) in
    left_marked c.self.inside.marks (from_entries c.self.inside.inner.entries) c.self.invariant c.mark_of.result c.args.column one _
    (ap (from_entries {R = place_cmp}) (search rules))

pub invariant_of-self-in_err-item : goal.invariant_of-self-in_err-item
invariant_of-self-in_err-item g c =
    let one = c.mark_of.ensures ∙ ap column_mark (stored c.args.column c.ranges.column) in
    left_marked c.self.inside.marks (from_entries c.self.inside.inner.entries) c.self.invariant c.mark_of.result c.args.column one _
    (ap (from_entries {R = place_cmp}) (search rules))

pub invariant_of-self-2 : goal.invariant_of-self-2
invariant_of-self-2 g c =
    let m = from_entries {R = place_cmp} c.self.inside.inner.entries in
    let place : ℤ × ℤ = (c.args.row, c.args.column) in
    let one = c.mark_of.ensures ∙ ap column_mark (stored c.args.column c.ranges.column) in
    let pair = stored_pair c.args.row c.args.column c.ranges.row c.ranges.column in
    let free = c.in_ok-free in
    insert_marked c.self.inside.marks m c.self.invariant c.mark_of.result c.args.column one c.args.row c.in_ok-item.item _
    (map_filled places_total places_exact c.self.inside.inner _ m _ place free.field-0 c.in_ok-item.item pair refl free.ensures.update (search rules))

pub returns-in_default-clause-made : goal.returns-in_default-clause-made
returns-in_default-clause-made g c =
    let stored = stored_pair c.args.row c.args.column c.ranges.row c.ranges.column in (
      refl,
      ap is_some (sym (read_at places_total c.self.inside.inner c.args.self.now _ (c.args.row, c.args.column) stored c.self.view_is)) ∙ search rules,
      refl,
      map_left places_total c.self.inside.inner _ c.args.self.now c.self.view_is (search rules),
    )

pub returns-clause-made : goal.returns-clause-made
returns-clause-made g c =
    let stored = stored_pair c.args.row c.args.column c.ranges.row c.ranges.column in (
      c.in_ok-item.item,
      c.in_ok-item.ensures.ok,
      sym (read_at places_total c.self.inside.inner c.args.self.now _ (c.args.row, c.args.column) stored c.self.view_is) ∙ search rules,
      map_filled places_total places_exact c.self.inside.inner _ c.args.self.now _ (c.args.row, c.args.column) c.in_ok-free.field-0 c.in_ok-item.item stored c.self.view_is c.in_ok-free.ensures.update (search rules),
    )
