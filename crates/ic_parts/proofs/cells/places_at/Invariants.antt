use Rattle.std.proofs.Common.{◌≡◌, ◌++◌, flat_map}
use Rattle.ic_parts.proofs.HolderReads.{places_of}
use Rattle.ic_parts.proofs.cells.places_at.Given as goal

-- what is listed so far, and the places of the sheets that are left
abbrev pub invariant-loop-index : goal.invariant-loop-index
invariant-loop-index l = l.all.items ++ flat_map (places_of l.sheets) l.index-iterator ≡ flat_map (places_of l.sheets) l.indexes.keys
