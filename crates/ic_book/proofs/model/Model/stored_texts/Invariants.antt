use Rattle.std.proofs.Common.{◌≡◌, map, take}
use Rattle.ic_workbooks.specs.Workbook.{stored_text}
use Rattle.ic_book.proofs.model.Model.stored_texts.Given as goal

-- those so far
abbrev pub invariant-loop-index : goal.invariant-loop-index
invariant-loop-index l = l.out.items ≡ map (stored_text l.self.book) (take l.index l.sheet.pool.formulas)
