use Rattle.ic_workbooks.proofs.FilledLemmas.{SheetsTo}
use Rattle.ic_workbooks.proofs.filled.fill_sheets.Given as goal

abbrev pub invariant-loop-index : goal.invariant-loop-index
invariant-loop-index l = SheetsTo l.tables l.numbers l.worksheets l.fn.contents l.index l.contents
