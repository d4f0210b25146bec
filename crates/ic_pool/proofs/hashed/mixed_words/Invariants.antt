use Rattle.std.proofs.Common.{◌≡◌, length}
use Rattle.ic_pool.specs.Hash.{mixed_words}
use Rattle.ic_pool.proofs.hashed.mixed_words.Given as goal

-- what is mixed, with what is left to mix
abbrev pub invariant-loop-word : goal.invariant-loop-word
invariant-loop-word l = mixed_words l.out l.rest ≡ mixed_words l.number l.bytes

abbrev pub decreases-loop-word : goal.decreases-loop-word
decreases-loop-word l = length l.rest
