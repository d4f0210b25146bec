use Rattle.ic_cells.specs.declared.cell.Cell.{Cell}
use Rattle.ic_grid.proofs.HandedInLemmas.{AsLeft}
use Rattle.ic_grid.specs.Block.{Place}
use Rattle.ic_grid.specs.HandedIn.{IsWhole}
use Rattle.ic_grid.specs.Shape.{celled, shape_of}
use Rattle.ic_grid.proofs.whole.are_whole.Given as goal

-- all are where those that are left are
abbrev pub invariant-loop-place : goal.invariant-loop-place
invariant-loop-place l = AsLeft (λ (e : Place × Cell). IsWhole celled l.cells e.0 (shape_of e.1)) l.place-iterator l.map.entries
