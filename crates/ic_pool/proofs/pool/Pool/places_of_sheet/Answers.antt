use Rattle.ic_pool.proofs.MentioningLemmas.{sheet_spared}
use Rattle.ic_pool.proofs.pool.Pool.places_of_sheet.Goals as goal

pub places_passing-requires : goal.places_passing-requires
places_passing-requires c = λ formula e. sheet_spared c.args.id c.sheet_topic.result c.sheet_topic.ensures formula e
