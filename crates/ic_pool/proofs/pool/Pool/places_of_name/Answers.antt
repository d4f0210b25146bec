use Rattle.std.proofs.Common.{◌∙◌, ap}
use Rattle.ic_pool.specs.Topics.{folded_topic}
use Rattle.ic_pool.proofs.MentioningLemmas.{name_spared}
use Rattle.ic_pool.proofs.pool.Pool.places_of_name.Goals as goal

pub places_passing-requires : goal.places_passing-requires
places_passing-requires c = λ formula e. name_spared c.args.key.now c.folded_topic.result (c.folded_topic.ensures ∙ ap folded_topic c.as_str.ensures.characters) formula e
