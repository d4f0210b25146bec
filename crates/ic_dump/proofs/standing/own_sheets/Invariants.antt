use Rattle.std.proofs.Common.{◌≡◌, map, take}
use Rattle.ic_dump.specs.Records.{AreFound}
use Rattle.ic_dump.proofs.standing.own_sheets.Given as goal

-- those so far
abbrev pub invariant-loop-sheet : goal.invariant-loop-sheet
invariant-loop-sheet l = record {
  sheets : l.standing.sheets.items ≡ map (λ s. s.name.now) (take l.sheet-index l.sheets);
  found : AreFound l.standing.indexes l.standing.sheets.items;
}
