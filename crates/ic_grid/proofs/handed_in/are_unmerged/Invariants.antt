use Rattle.std.proofs.Common.{◌≡◌, true}
use Rattle.ic_cells.specs.declared.cell.Cell.{Cell}
use Rattle.ic_grid.proofs.HandedInLemmas.{AsLeft}
use Rattle.ic_grid.specs.Arrays.{array_from}
use Rattle.ic_grid.specs.Block.{Place}
use Rattle.ic_grid.specs.HandedIn.{is_unmerged}
use Rattle.ic_grid.specs.Shape.{shape_of}
use Rattle.ic_grid.proofs.handed_in.are_unmerged.Given as goal

-- all are where those that are left are
abbrev pub invariant-loop-place : goal.invariant-loop-place
invariant-loop-place l = AsLeft (λ (e : Place × Cell). is_unmerged l.merges (array_from e.0 (shape_of e.1)) ≡ true) l.place-iterator l.map.entries
