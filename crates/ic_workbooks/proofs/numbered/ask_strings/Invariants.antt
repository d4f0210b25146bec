use Rattle.std.proofs.Common.{take}
use Rattle.std.specs.List.{AllByRecursion}
use Rattle.ic_workbooks.specs.HandedIn.{HasStrings}
use Rattle.ic_workbooks.proofs.numbered.ask_strings.Given as goal

abbrev pub invariant-loop-worksheet : goal.invariant-loop-worksheet
invariant-loop-worksheet l = AllByRecursion (HasStrings l.count) (take l.worksheet-index l.worksheets)
