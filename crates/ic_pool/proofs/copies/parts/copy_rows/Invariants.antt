use Rattle.std.proofs.Common.{◌≡◌, take}
use Rattle.ic_pool.proofs.copies.parts.copy_rows.Given as goal

abbrev pub invariant-loop-row : goal.invariant-loop-row
invariant-loop-row l = l.out.items ≡ take l.row-index l.rows
