use Rattle.std.proofs.Common.{◌≡◌, take, map}
use Rattle.ic_workbooks.specs.Workbook.{defined_name_of}
use Rattle.ic_book.proofs.model.Model.records_of.Given as goal

-- those so far
abbrev pub invariant-loop-definition : goal.invariant-loop-definition
invariant-loop-definition l = l.out.items ≡ map (defined_name_of l.self.book) (take l.definition-index l.definitions)
