use Rattle.std.proofs.Common.{pos, subst, w32}
use Rattle.std.proofs.lemmas.Int.{to_z-of_z}
use Rattle.std.specs.FinMap as finite
use Rattle.ic_grid.specs.Walk.{HasNone, IsFirst}
use Rattle.ic_parts.proofs.BlankRows.{apart, in_its_row, none_in_row}
use Rattle.ic_parts.proofs.markup.is_empty_row.Goals as goal

pub returns-in-Some : goal.returns-in-Some
returns-in-Some c = λ is column from.
    none_in_row (finite.get c.args.cells.now) c.args.row column c.in-Some.place
    (subst (λ r. IsFirst (finite.get c.args.cells.now) (r, pos 1) c.in-Some.place) (to_z-of_z w32 c.args.row c.ranges.row) c.in-Some.ensures.some)
    (apart c.in-Some.place.0 c.args.row is) from

pub returns-in-None : goal.returns-in-None
returns-in-None c = λ is column from.
    subst (λ r. HasNone (finite.get c.args.cells.now) (r, pos 1)) (to_z-of_z w32 c.args.row c.ranges.row) c.in-None.ensures.none (c.args.row, column) (in_its_row c.args.row column from)
