use Rattle.std.proofs.Common.{◌≡◌, ℤ, true}
use Rattle.std.proofs.lemmas.Cmp.{int_cmp_total}
use Rattle.std.specs.FinMap.{int_cmp-IsAntisymmetric}
use Rattle.ic_laws.specs.Position.{is_row}
use Rattle.ic_cells.specs.declared.layout.RowProps.{RowProps}
use Rattle.ic_grid.proofs.HandedInLemmas.{entries_decided}
use Rattle.ic_grid.proofs.handed_in.has_rows_in_sheet.Goals as goal

pub returns : goal.returns
returns c =
    entries_decided (λ (n : ℤ) (props : RowProps). is_row n ≡ true) int_cmp_total int_cmp-IsAntisymmetric c.as_map.result.now c.args.rows.now c.as_map.ensures c.are_rows.result c.are_rows.ensures.all c.are_rows.ensures.ordered
