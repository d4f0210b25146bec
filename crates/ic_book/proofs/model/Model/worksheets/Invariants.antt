use Rattle.std.proofs.Common.{◌≡◌, take, map}
use Rattle.ic_sheets.specs.Sheet.{sheet_of}
use Rattle.ic_workbooks.specs.Workbook.{worksheet_of}
use Rattle.ic_book.proofs.model.Model.worksheets.Given as goal

-- those so far
abbrev pub invariant-loop-sheet : goal.invariant-loop-sheet
invariant-loop-sheet l = l.out.items ≡ map (worksheet_of l.self.book) (map sheet_of (take l.sheet-index l.sheets))
