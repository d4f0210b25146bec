use Rattle.std.proofs.Common.{◌∙◌, ℤ, ap, inl, inr, is_some, refl, sym}
use Rattle.std.specs.FinMap.{from_entries}
use Rattle.ic_cells.proofs.ColumnLemmas.{lent_marked}
use Rattle.ic_cells.proofs.MapLemmas.{map_insert, places_exact, places_total, read_at, stored_pair}
use Rattle.ic_cells.specs.Maps.{place_cmp}
use Rattle.ic_cells.proofs.maps.PlaceMap.get_mut.Goals as goal

pub invariant_of-self-lent : goal.invariant_of-self-lent
invariant_of-self-lent g c =
    let m = from_entries {R = place_cmp} c.self.inside.inner.entries in
    let place : ℤ × ℤ = (c.args.row, c.args.column) in
    let pair = stored_pair c.args.row c.args.column c.ranges.row c.ranges.column in
    let some = sym (ap is_some c.in-Some.ensures.value) in
    λ w. lent_marked c.self.inside.marks m c.self.invariant place w _
    (map_insert places_total places_exact c.self.inside.inner (c.get_mut.follows.lender w) m _ place w pair refl ((c.get_mut.follows.holds w).3 some))
    (ap is_some (sym (read_at places_total c.self.inside.inner m _ place pair refl)) ∙ some)

pub returns-in-Some : goal.returns-in-Some
returns-in-Some g c =
    let stored = stored_pair c.args.row c.args.column c.ranges.row c.ranges.column in
    let written = λ (w : g.row.T.Denot). map_insert places_total places_exact c.self.inside.inner (c.get_mut.follows.lender w) c.args.self.now _ (c.args.row, c.args.column) w stored c.self.view_is
    ((c.get_mut.follows.holds w).3 (sym (ap is_some c.in-Some.ensures.value))) in (
      (λ i. inl (c.in-Some.item.ghost_name, λ w. written w i)),
      record { writes_back = tt; value = c.in-Some.ensures.value ∙ read_at places_total c.self.inside.inner c.args.self.now _ (c.args.row, c.args.column) stored c.self.view_is },
    )

pub returns-in-None : goal.returns-in-None
returns-in-None g c =
    let stored = stored_pair c.args.row c.args.column c.ranges.row c.ranges.column in
    let left = ap (λ m. from_entries {R = place_cmp} m.entries) c.get_mut.follows.holds-at-none ∙ c.self.view_is in (
      (λ i. inr (left i)),
      record { writes_back = tt; value = c.in-None.ensures.value ∙ read_at places_total c.self.inside.inner c.args.self.now _ (c.args.row, c.args.column) stored c.self.view_is },
    )
