use Rattle.std.proofs.Common.{◌≡◌, take}
use Rattle.ic_pool.proofs.copies.parts.copy_row.Given as goal

abbrev pub invariant-loop-constant : goal.invariant-loop-constant
invariant-loop-constant l = l.out.items ≡ take l.constant-index l.row
