use Rattle.std.proofs.Common.{◌≡◌, ◌++◌, drop, map}
use Rattle.std.specs.Prelude.{zip}
use Rattle.ic_dump.specs.Passing.{sheet_named}
use Rattle.ic_dump.specs.Records.{AreFound}
use Rattle.ic_dump.proofs.standing.push_named.Given as goal

-- those so far, and those that are left
abbrev pub invariant-loop-index : goal.invariant-loop-index
invariant-loop-index l = record {
  sheets : l.standing.sheets.items ++ map sheet_named (zip (drop l.index l.ids) (drop l.index l.names)) ≡ l.initial.standing.sheets.items ++ map sheet_named (zip l.ids l.names);
  found : AreFound l.standing.indexes l.standing.sheets.items;
}
