use Rattle.std.proofs.Common.{◌≡◌, ◌<◌, ◌^◌, drop}
use Rattle.ic_pool.specs.Topics.{all_mixed}
use Rattle.ic_pool.proofs.topics.mixed_folding.Given as goal

-- what is mixed, with what is left to mix
abbrev pub invariant-loop-folded : goal.invariant-loop-folded
invariant-loop-folded l = (all_mixed l.out (drop l.folded-index l.folding) ≡ all_mixed l.number l.folding) × (l.out < 2 ^ 40)
