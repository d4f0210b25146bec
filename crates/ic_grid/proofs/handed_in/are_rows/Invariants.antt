use Rattle.std.proofs.Common.{◌≡◌, ℤ, true}
use Rattle.ic_laws.specs.Position.{is_row}
use Rattle.ic_cells.specs.declared.layout.RowProps.{RowProps}
use Rattle.ic_grid.proofs.HandedInLemmas.{AsLeft}
use Rattle.ic_grid.proofs.handed_in.are_rows.Given as goal

-- all are where those that are left are
abbrev pub invariant-loop-row : goal.invariant-loop-row
invariant-loop-row l = AsLeft (λ (e : ℤ × RowProps). is_row e.0 ≡ true) l.row-iterator l.map.entries
