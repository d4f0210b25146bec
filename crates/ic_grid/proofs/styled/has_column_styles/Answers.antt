use Rattle.std.proofs.lemmas.Cmp.{int_cmp_total}
use Rattle.ic_cells.specs.declared.layout.ColumnProps.{ColumnProps}
use Rattle.ic_grid.proofs.StyledLemmas.{number_decided, values_decided}
use Rattle.ic_grid.specs.Conditions.{IsStyleNumber, is_style_number}
use Rattle.ic_grid.proofs.styled.has_column_styles.Goals as goal

pub returns : goal.returns
returns c =
    values_decided (λ (props : ColumnProps). IsStyleNumber c.args.count props.style) (λ (props : ColumnProps). is_style_number c.args.count props.style) (λ props. number_decided c.args.count props.style) int_cmp_total
    c.as_map.result.now c.args.columns.now c.as_map.ensures c.are_columns_below.result c.are_columns_below.ensures.all c.are_columns_below.ensures.ordered
