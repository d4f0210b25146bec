use Rattle.std.proofs.Common.{take}
use Rattle.ic_sheets.specs.Mentioners.{KnowsSheets}
use Rattle.ic_sheets.proofs.mentioners.Mentioners.of.Given as goal

-- those before are known
abbrev pub invariant-loop-sheet : goal.invariant-loop-sheet
invariant-loop-sheet l = KnowsSheets l.mentioners (take l.sheet-index l.sheets)
