use Rattle.std.proofs.Common.{◌≡◌, take}
use Rattle.ic_parts.proofs.copies.copy_merges.Given as goal

-- what is copied so far
abbrev pub invariant-loop-merge : goal.invariant-loop-merge
invariant-loop-merge l = l.out.items ≡ take l.merge-index l.merges
