use Rattle.ic_pool.specs.Topics.{topics_in}
use Rattle.ic_definitions.proofs.MentionedBodies.{kept_known, noted_known}
use Rattle.ic_definitions.proofs.mentioned.Mentioned.note.Goals as goal

pub returns-in-Ok-clause-noted : goal.returns-in-Ok-clause-noted
returns-in-Ok-clause-noted c = λ has. noted_known c.args.self.now.topics c.put_topics.new.topics (topics_in c.args.body.now) c.in-Ok.ensures

pub returns-in-Ok-clause-kept : goal.returns-in-Ok-clause-kept
returns-in-Ok-clause-kept c = λ other knows has. kept_known c.args.self.now.topics c.put_topics.new.topics (topics_in c.args.body.now) (topics_in other) c.in-Ok.ensures (knows has)
