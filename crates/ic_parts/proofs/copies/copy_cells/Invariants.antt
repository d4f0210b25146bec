use Rattle.std.proofs.Common.{◌≡◌}
use Rattle.ic_parts.proofs.CopyLemmas.{inserted}
use Rattle.ic_parts.proofs.copies.copy_cells.Given as goal

-- what is copied so far, with the rest put in, are the cells
abbrev pub invariant-loop-place : goal.invariant-loop-place
invariant-loop-place l = inserted l.out l.place-iterator ≡ l.cells
