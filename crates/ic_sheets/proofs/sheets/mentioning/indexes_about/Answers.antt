use Rattle.std.proofs.Common.{◌∙◌, ap, inl, inr}
use Rattle.ic_pool.specs.MentionPlaces.{has_place}
use Rattle.ic_pool.proofs.PlaceLemmas.{any_more}
use Rattle.ic_sheets.specs.Index.{is_listed}
use Rattle.ic_sheets.proofs.sheets.mentioning.indexes_about.Goals as goal

pub loop-topic-preserved : goal.loop-topic-preserved
loop-topic-preserved c = λ id index e at.
    elim (any_more (λ topic. has_place c.args.mentioners.now.index topic id) c.args.topics.now c.loop-topic.topic-index c.loop-topic-test.true e) [
      | inl before ↦ c.put_indexes.ensures.kept index (c.loop-topic.invariant id index before at)
      | inr its ↦ c.in_ok-put_indexes.ensures.put id index (ap (is_listed id) c.ids_with.ensures ∙ its) at
    ]
