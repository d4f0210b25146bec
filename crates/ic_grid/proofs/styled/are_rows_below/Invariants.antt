use Rattle.std.proofs.Common.{◌≡◌}
use Rattle.std.specs.BTreeMap.{values}
use Rattle.std.specs.List.{list_all}
use Rattle.ic_cells.specs.declared.layout.RowProps.{RowProps}
use Rattle.ic_grid.specs.Conditions.{is_style_number}
use Rattle.ic_grid.proofs.styled.are_rows_below.Given as goal

-- all are where those that are left are
abbrev pub invariant-loop-props : goal.invariant-loop-props
invariant-loop-props l = list_all (λ (props : RowProps). is_style_number l.count props.style) l.props-iterator ≡ list_all (λ (props : RowProps). is_style_number l.count props.style) (values l.map)
