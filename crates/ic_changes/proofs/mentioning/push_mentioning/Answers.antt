use Rattle.ic_changes.specs.Mentioning.{mentions}
use Rattle.ic_changes.proofs.Uncopied.{none_listed}
use Rattle.ic_changes.proofs.mentioning.push_mentioning.Goals as goal

pub returns-then-not-may_mention : goal.returns-then-not-may_mention
returns-then-not-may_mention c = none_listed (mentions c.args.sought.now) c.args.definitions.now c.args.sites.now.items (c.may_mention.ensures c.if-not-may_mention.true)
