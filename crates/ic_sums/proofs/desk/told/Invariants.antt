use Rattle.std.proofs.Common.{◌≡◌, chars, flat_map, string_bytes, take}
use Rattle.ic_parts.specs.Whole.{whole_of}
use Rattle.ic_sums.specs.Told.{told_cell}
use Rattle.ic_sums.proofs.desk.told.Given as goal

-- the lines of the cells so far
abbrev pub invariant-loop-cell : goal.invariant-loop-cell
invariant-loop-cell l = chars (string_bytes l.text) ≡ flat_map (told_cell (whole_of l.model.book)) (take l.cell-index l.cell-items)
