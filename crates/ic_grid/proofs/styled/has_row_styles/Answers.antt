use Rattle.std.proofs.lemmas.Cmp.{int_cmp_total}
use Rattle.ic_cells.specs.declared.layout.RowProps.{RowProps}
use Rattle.ic_grid.proofs.StyledLemmas.{number_decided, values_decided}
use Rattle.ic_grid.specs.Conditions.{IsStyleNumber, is_style_number}
use Rattle.ic_grid.proofs.styled.has_row_styles.Goals as goal

pub returns : goal.returns
returns c =
    values_decided (λ (props : RowProps). IsStyleNumber c.args.count props.style) (λ (props : RowProps). is_style_number c.args.count props.style) (λ props. number_decided c.args.count props.style) int_cmp_total
    c.as_map.result.now c.args.rows.now c.as_map.ensures c.are_rows_below.result c.are_rows_below.ensures.all c.are_rows_below.ensures.ordered
