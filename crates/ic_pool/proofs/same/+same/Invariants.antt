use Rattle.std.proofs.Common.{◌≡◌, take}
use Rattle.ic_pool.proofs.same.+same.Given as goal

-- those before are the same
abbrev pub invariant-are_all_same-loop-at : goal.invariant-are_all_same-loop-at
invariant-are_all_same-loop-at l = take l.at l.a ≡ take l.at l.b
