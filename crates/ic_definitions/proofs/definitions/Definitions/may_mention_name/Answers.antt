use Rattle.std.proofs.Common.{ap, ◌∙◌}
use Rattle.ic_pool.specs.Mentioning.{mentions_name}
use Rattle.ic_pool.specs.Topics.{folded_topic}
use Rattle.ic_definitions.proofs.MentionedBodies.{none_that}
use Rattle.ic_pool.proofs.MentioningLemmas.{name_spared}
use Rattle.ic_definitions.proofs.definitions.Definitions.may_mention_name.Goals as goal

pub returns : goal.returns
returns c = λ e. none_that (mentions_name c.args.key.now) c.folded_topic.result c.args.self.now (name_spared c.args.key.now c.folded_topic.result (c.folded_topic.ensures ∙ ap folded_topic c.as_str.ensures.characters)) (c.may_mention.ensures e)
