use Rattle.std.proofs.Common.{◌≡◌, ℤ, true}
use Rattle.std.proofs.lemmas.Cmp.{int_cmp_total}
use Rattle.std.specs.FinMap.{int_cmp-IsAntisymmetric}
use Rattle.ic_laws.specs.Position.{is_column}
use Rattle.ic_cells.specs.declared.layout.ColumnProps.{ColumnProps}
use Rattle.ic_grid.proofs.HandedInLemmas.{entries_decided}
use Rattle.ic_grid.proofs.handed_in.has_columns_in_sheet.Goals as goal

pub returns : goal.returns
returns c =
    entries_decided (λ (n : ℤ) (props : ColumnProps). is_column n ≡ true) int_cmp_total int_cmp-IsAntisymmetric c.as_map.result.now c.args.columns.now c.as_map.ensures c.are_columns.result c.are_columns.ensures.all c.are_columns.ensures.ordered
