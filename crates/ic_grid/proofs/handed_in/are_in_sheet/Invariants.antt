use Rattle.std.proofs.Common.{◌≡◌, true}
use Rattle.ic_cells.specs.declared.cell.Cell.{Cell}
use Rattle.ic_grid.proofs.HandedInLemmas.{AsLeft}
use Rattle.ic_grid.specs.Block.{Place, is_in_sheet}
use Rattle.ic_grid.proofs.handed_in.are_in_sheet.Given as goal

-- all are where those that are left are
abbrev pub invariant-loop-place : goal.invariant-loop-place
invariant-loop-place l = AsLeft (λ (e : Place × Cell). is_in_sheet e.0 ≡ true) l.place-iterator l.map.entries
