use Rattle.std.proofs.Common.{◌+ℤ◌, pos, subst, sym, to_z, of_z, w32, rules}
use Rattle.std.specs.FinMap.{from_entries}
use Rattle.ic_cells.proofs.ColumnLemmas.{next_unmarked}
use Rattle.ic_cells.proofs.MapLemmas.{stored}
use Rattle.ic_cells.specs.Maps.{HasNoneBetween, place_cmp}
use Rattle.ic_cells.proofs.maps.PlaceMap.may_stand_in.Goals as goal

pub loop-column-preserved : goal.loop-column-preserved
loop-column-preserved g c =
    let at = to_z w32 c.loop-column.column-bits in
    let first = to_z w32 (of_z w32 c.args.from) in
    let m = from_entries {R = place_cmp} c.self.inside.inner.entries in
    let none : HasNoneBetween m first at = subst (λ w. HasNoneBetween w first at) (sym c.self.view_is) c.loop-column.invariant in
    let more = next_unmarked c.self.inside.marks m c.self.invariant first at c.mark_of.result none c.mark_of.ensures c.if-self-mark_of-ne0.false in
    let fits = stored (at +ℤ pos 1) (search rules) in
    let next = to_z w32 (of_z w32 (at +ℤ pos 1)) in
    subst (λ w. HasNoneBetween w first next) c.self.view_is (subst (λ z. HasNoneBetween m first z) (sym fits) more)
