use Rattle.std.proofs.Common.{◌≡◌, ◌++◌, drop}
use Rattle.std.specs.Prelude.{flat_map}
use Rattle.ic_dump.proofs.StageLemmas.{naming_of}
use Rattle.ic_dump.proofs.stages.push_naming.Given as goal

-- those so far, and those of the sheets that are left
abbrev pub invariant-loop-sheet : goal.invariant-loop-sheet
invariant-loop-sheet l = l.lines.items ++ flat_map naming_of (drop l.sheet-index l.sheets) ≡ l.initial.lines.items ++ flat_map naming_of l.sheets
