use Rattle.std.proofs.Common.{chars, string_bytes}
use Rattle.ic_share.proofs.SharedRuns.{ready_after}
use Rattle.ic_share.proofs.lines.UsersAnswers.reply_in.Goals as goal

pub returns-clause-ready : goal.returns-clause-ready
returns-clause-ready c =
    ready_after c.answered.result (λ reply. string_bytes reply) (chars c.args.line.now) c.args.self.now c.answered.new.self c.args.model.now.book c.answered.new.model.book c.requires.ready.0 c.requires.ready.1 c.answered.ensures.does c.answered.ensures.own
