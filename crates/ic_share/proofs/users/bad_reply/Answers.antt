use Rattle.std.proofs.Common.{refl}
use Rattle.ic_share.proofs.UsersLemmas.{empty_left, empty_told}
use Rattle.ic_share.proofs.users.bad_reply.Goals as goal

pub returns-clause-reply : goal.returns-clause-reply
returns-clause-reply c = empty_told _ _ _ c.reply_to_text.result refl c.reply_to_text.ensures.whole

pub returns-clause-left : goal.returns-clause-left
returns-clause-left c = empty_left _ _ _ c.reply_to_text.result refl c.reply_to_text.ensures.whole c.reply_to_text.ensures.err
