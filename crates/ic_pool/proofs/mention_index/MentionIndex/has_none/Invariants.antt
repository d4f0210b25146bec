use Rattle.std.proofs.Common.{◌≡◌, ℕ, false, take}
use Rattle.ic_pool.specs.MentionPlaces.{has_place_of}
use Rattle.ic_pool.proofs.mention_index.MentionIndex.has_none.Given as goal

-- it has none of the topics before
abbrev pub invariant-loop-topic : goal.invariant-loop-topic
invariant-loop-topic l = (at : ℕ) → has_place_of l.self (take l.topic-index l.topics) at ≡ false
