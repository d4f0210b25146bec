use Rattle.std.proofs.Common.{◌≡◌, ◌++◌, drop}
use Rattle.ic_dump.specs.Lines.{inserting_lines_from}
use Rattle.ic_dump.proofs.stages.push_inserting.Given as goal

-- those so far, and the lines of the sheets that are left
abbrev pub invariant-loop-index : goal.invariant-loop-index
invariant-loop-index l = l.lines.items ++ inserting_lines_from l.index (drop l.index l.sheets) ≡ l.initial.lines.items ++ inserting_lines_from 0 l.sheets
