use Rattle.ic_sheets.proofs.HolderLemmas.{no_cells}
use Rattle.ic_sheets.proofs.sheets.holders.Holders.note.Goals as goal

pub returns-else-not-is_empty-clause-noted : goal.returns-else-not-is_empty-clause-noted
returns-else-not-is_empty-clause-noted c = λ has none. no_cells c.as_map.result.now c.args.sheet.now.grid.cells c.as_map.ensures (c.is_empty.ensures.0 c.if-not-is_empty.false)
