use Rattle.std.proofs.Common.{◌≡◌, drop, map}
use Rattle.std.specs.List.{slice_get}
use Rattle.std.specs.Prelude.{flat_map}
use Rattle.ic_parts.specs.Book.{notations_in}
use Rattle.ic_parts.specs.Lent.{placed}
use Rattle.ic_dump.specs.Refused.{rereading_cell}
use Rattle.ic_dump.proofs.refused.rereading_among.Given as goal

-- what is left decides
abbrev pub invariant-loop-cell : goal.invariant-loop-cell
invariant-loop-cell l = slice_get (flat_map (rereading_cell (notations_in l.model.book) l.id) (drop l.cell-index (map placed l.cells))) 0 ≡ slice_get (flat_map (rereading_cell (notations_in l.model.book) l.id) (map placed l.cells)) 0
