use Rattle.std.proofs.Common.{◌≡◌, ◌++◌, map, take}
use Rattle.std.specs.Prelude.{flat_map}
use Rattle.ic_parts.specs.Lent.{placed}
use Rattle.ic_dump.specs.Passing.{unfound_of}
use Rattle.ic_dump.proofs.taken.push_unfound_among.Given as goal

-- those so far
abbrev pub invariant-loop-cell : goal.invariant-loop-cell
invariant-loop-cell l = map (λ name. name.now) l.names.items ≡ map (λ name. name.now) l.initial.names.items ++ flat_map unfound_of (map (λ cell. cell.1) (map placed (take l.cell-index l.cells)))
