use Rattle.std.proofs.Common.{◌+◌, ap, rules}
use Rattle.ic_pool.proofs.TopicLemmas.{mixed_further, mixed_whole}
use Rattle.ic_pool.proofs.topics.name_topic.Goals as goal

pub loop-c-preserved : goal.loop-c-preserved
loop-c-preserved c = (search rules, mixed_further c.loop-c.out c.mixed_folding-out.result c.in-Some.c _ _ _ c.loop-c.invariant.1 c.in-Some.ensures.parts c.mixed_folding-out.ensures.value, c.mixed_folding-out.ensures.small)

pub returns : goal.returns
returns c = ap (λ n. 4294967296 + n) (mixed_whole c.loop-c.out _ _ c.loop-c.invariant.1 c.in_default.ensures.parts)
