use Rattle.std.proofs.Common.{take}
use Rattle.std.specs.List.{AllByRecursion}
use Rattle.ic_workbooks.specs.Filled.{IsMet}
use Rattle.ic_workbooks.proofs.asked.sheets.ask_each.Given as goal

-- those so far
abbrev pub invariant-loop-sheet : goal.invariant-loop-sheet
invariant-loop-sheet l = AllByRecursion (IsMet l.condition l.styles) (take l.sheet-index l.sheets)
