use Rattle.ic_laws.proofs.core.CellWritten.{place_cmp_total}
use Rattle.ic_grid.proofs.StyledLemmas.{values_decided}
use Rattle.ic_workbooks.proofs.NumberedLemmas.{string_decided}
use Rattle.ic_parts.specs.Book.{HasString}
use Rattle.ic_workbooks.specs.Numbered.{is_string_below}
use Rattle.ic_workbooks.proofs.numbered.has_strings.Goals as goal

pub returns : goal.returns
returns c =
    values_decided (HasString c.args.count) (is_string_below c.args.count) (string_decided c.args.count) place_cmp_total c.as_map.result.now c.args.worksheet.now.cells c.as_map.ensures c.are_strings_below.result
    c.are_strings_below.ensures.all c.are_strings_below.ensures.ordered
