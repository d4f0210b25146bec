use Rattle.std.proofs.Common.{◌≡◌, ℤ, true}
use Rattle.ic_laws.specs.Position.{is_column}
use Rattle.ic_cells.specs.declared.layout.ColumnProps.{ColumnProps}
use Rattle.ic_grid.proofs.HandedInLemmas.{AsLeft}
use Rattle.ic_grid.proofs.handed_in.are_columns.Given as goal

-- all are where those that are left are
abbrev pub invariant-loop-column : goal.invariant-loop-column
invariant-loop-column l = AsLeft (λ (e : ℤ × ColumnProps). is_column e.0 ≡ true) l.column-iterator l.map.entries
