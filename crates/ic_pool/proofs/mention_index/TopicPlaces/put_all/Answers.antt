use Rattle.std.proofs.Common.{◌≡◌, true, get_or, inl, inr, subst, sym}
use Rattle.std.specs.Prelude.{nat_eq}
use Rattle.std.proofs.lemmas.Bool.{eqb-true}
use Rattle.ic_pool.specs.MentionPlaces.{has_place}
use Rattle.ic_pool.proofs.PlaceLemmas.{any_more}
use Rattle.ic_pool.proofs.mention_index.TopicPlaces.put_all.Goals as goal

pub loop-topic-preserved : goal.loop-topic-preserved
loop-topic-preserved c = record {
  noted = λ topic e.
      elim (any_more (nat_eq topic) c.args.topics.now c.loop-topic.topic-index c.loop-topic-test.true e) [
        | inl before ↦ c.put.ensures.kept topic c.args.at (c.loop-topic.invariant.noted topic before)
        | inr same ↦ subst (λ t. has_place c.put.new.self t c.args.at ≡ true) (sym (eqb-true topic (get_or c.args.topics.now c.loop-topic.topic-index 0) same)) c.in_ok-put.ensures.noted
      ];
  kept = λ topic at e. c.put.ensures.kept topic at (c.loop-topic.invariant.kept topic at e);
}
