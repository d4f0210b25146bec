use Rattle.ic_pool.specs.Mentioning.{mentions_sheet}
use Rattle.ic_definitions.proofs.MentionedBodies.{none_that}
use Rattle.ic_pool.proofs.MentioningLemmas.{sheet_spared}
use Rattle.ic_definitions.proofs.definitions.Definitions.may_mention_sheet.Goals as goal

pub returns : goal.returns
returns c = λ e. none_that (mentions_sheet c.args.id) c.from.result c.args.self.now (sheet_spared c.args.id c.from.result c.from.ensures) (c.may_mention.ensures e)
