use Rattle.std.proofs.Common.{◌≡◌, take, map}
use Rattle.ic_parts.specs.Scene.{named}
use Rattle.ic_parts.proofs.lent.names_of.Given as goal

-- those so far
abbrev pub invariant-loop-sheet : goal.invariant-loop-sheet
invariant-loop-sheet l = l.names.items ≡ map named (take l.sheet-index l.sheets)
