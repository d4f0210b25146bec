use Rattle.std.proofs.Common.{◌≡◌}
use Rattle.std.specs.BTreeMap.{values}
use Rattle.std.specs.List.{list_all}
use Rattle.std.specs.Prelude.{nat_lt}
use Rattle.ic_cells.specs.Cell.{style_of}
use Rattle.ic_cells.specs.declared.cell.Cell.{Cell}
use Rattle.ic_grid.proofs.styled.are_below.Given as goal

-- all are where those that are left are
abbrev pub invariant-loop-cell : goal.invariant-loop-cell
invariant-loop-cell l = list_all (λ (x : Cell). nat_lt (style_of x) l.count) l.cell-iterator ≡ list_all (λ (x : Cell). nat_lt (style_of x) l.count) (values l.map)
