use Rattle.std.proofs.Common.{◌∙◌, ◌||◌, ap, inl, inr}
use Rattle.ic_pool.specs.MentionPlaces.{has_place}
use Rattle.ic_pool.specs.Pool.{is_among}
use Rattle.ic_pool.proofs.PlaceLemmas.{any_more, or_true}
use Rattle.ic_pool.proofs.mention_index.MentionIndex.places_of.Goals as goal

pub loop-topic-preserved : goal.loop-topic-preserved
loop-topic-preserved c = record {
  ascend = c.in_ok-places.ensures.ascend;
  all = λ at e.
      c.in_ok-places.ensures.merged at
      ∙ elim (any_more (λ topic. has_place c.args.self.now topic at) c.args.topics.now c.loop-topic.topic-index c.loop-topic-test.true e) [
        | inl before ↦ ap (λ b. b || is_among at c.places_with.result.now) (c.loop-topic.invariant.all at before)
        | inr its ↦ ap (λ b. is_among at c.loop-topic.places.items || b) (ap (is_among at) c.places_with.ensures.places ∙ its)
            ∙ or_true (is_among at c.loop-topic.places.items)
      ];
}
