use Rattle.std.proofs.Common.{◌≡◌, ◌++◌, drop}
use Rattle.ic_sheets.specs.Spots.{spots_from}
use Rattle.ic_sheets.proofs.sheets.spots.listed.Given as goal

-- what is listed so far, and the indexes of the sheets that are left
abbrev pub invariant-loop-index : goal.invariant-loop-index
invariant-loop-index l = l.list.items ++ spots_from l.index (drop l.index l.sheets) ≡ spots_from 0 l.sheets
