use Rattle.std.proofs.Common.{◌≡◌, ◌++◌, map}
use Rattle.std.specs.BTreeMap.{keys}
use Rattle.ic_parts.specs.Cells.{place_in}
use Rattle.ic_parts.proofs.cells.push_places.Given as goal

-- what is listed so far, and the places that are left
abbrev pub invariant-loop-place : goal.invariant-loop-place
invariant-loop-place l = l.all.items ++ map (place_in l.index) l.place-iterator ≡ l.initial.all.items ++ map (place_in l.index) (keys l.cells)
