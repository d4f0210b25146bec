use Rattle.std.proofs.Common.{◌+◌, length}
use Rattle.ic_pool.proofs.MergeLemmas.{MergedSoFar}
use Rattle.ic_pool.proofs.mention_index.merged.Given as goal

abbrev pub invariant-loop-at : goal.invariant-loop-at
invariant-loop-at l = MergedSoFar l.one l.other l.both.items l.ones l.others

abbrev pub decreases-loop-at : goal.decreases-loop-at
decreases-loop-at l = length l.ones + length l.others
