use Rattle.std.proofs.Common.{◌≡◌, ◌++◌, drop}
use Rattle.ic_parts.specs.Cells.{places_from}
use Rattle.ic_parts.proofs.cells.places_in.Given as goal

-- what is listed so far, and the places of the sheets that are left
abbrev pub invariant-loop-index : goal.invariant-loop-index
invariant-loop-index l = l.all.items ++ places_from l.index (drop l.index l.sheets) ≡ places_from 0 l.sheets
