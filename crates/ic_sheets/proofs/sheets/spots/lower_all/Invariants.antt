use Rattle.std.proofs.Common.{◌≡◌, ◌++◌, drop, take}
use Rattle.ic_sheets.specs.Spots.{lowered, with_indexes}
use Rattle.ic_sheets.proofs.sheets.spots.lower_all.Given as goal

-- those before this place are changed
abbrev pub invariant-loop-place : goal.invariant-loop-place
invariant-loop-place l = l.spots.items ≡ with_indexes (lowered l.index) (take l.place l.fn.spots.items) ++ drop l.place l.fn.spots.items
