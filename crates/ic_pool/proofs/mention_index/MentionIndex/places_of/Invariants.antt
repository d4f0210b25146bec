use Rattle.std.proofs.Common.{◌≡◌, ℕ, true, take}
use Rattle.ic_pool.specs.MentionPlaces.{AscendFrom, has_place_of}
use Rattle.ic_pool.specs.Pool.{is_among}
use Rattle.ic_pool.proofs.mention_index.MentionIndex.places_of.Given as goal

-- those of the topics before are there
abbrev pub invariant-loop-topic : goal.invariant-loop-topic
invariant-loop-topic l = record {
  ascend : AscendFrom 0 l.places.items;
  all : (at : ℕ) → has_place_of l.self (take l.topic-index l.topics) at ≡ true → is_among at l.places.items ≡ true;
}
