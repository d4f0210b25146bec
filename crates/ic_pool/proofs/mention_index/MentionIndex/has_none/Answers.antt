use Rattle.std.proofs.Common.{◌∙◌, ap, sym}
use Rattle.ic_pool.specs.MentionPlaces.{has_place}
use Rattle.ic_pool.specs.Pool.{is_among}
use Rattle.ic_pool.proofs.PlaceLemmas.{no_items, none_more}
use Rattle.ic_pool.proofs.mention_index.MentionIndex.has_none.Goals as goal

pub loop-topic-preserved : goal.loop-topic-preserved
loop-topic-preserved c = λ at.
    let none = no_items c.places_with.result.now (sym c.is_empty.ensures ∙ c.if-not-is_empty.false) in
    none_more (λ topic. has_place c.args.self.now topic at) c.args.topics.now c.loop-topic.topic-index c.loop-topic-test.true (c.loop-topic.invariant at)
    (ap (is_among at) (sym c.places_with.ensures.places ∙ none))
