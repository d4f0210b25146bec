use Rattle.std.proofs.Common.{◌<◌}
use Rattle.std.proofs.lemmas.Bool.Decides.{Decides-ltb}
use Rattle.std.specs.Prelude.{nat_lt}
use Rattle.ic_cells.specs.Cell.{style_of}
use Rattle.ic_cells.specs.declared.cell.Cell.{Cell}
use Rattle.ic_laws.proofs.core.CellWritten.{place_cmp_total}
use Rattle.ic_grid.proofs.StyledLemmas.{values_decided}
use Rattle.ic_grid.proofs.styled.has_cell_styles.Goals as goal

pub returns : goal.returns
returns c =
    values_decided (λ (x : Cell). style_of x < c.args.count) (λ (x : Cell). nat_lt (style_of x) c.args.count) (λ x. Decides-ltb (style_of x) c.args.count) place_cmp_total c.as_map.result.now c.args.cells.now
    c.as_map.ensures c.are_below.result c.are_below.ensures.all c.are_below.ensures.ordered
