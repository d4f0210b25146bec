use Rattle.std.proofs.Common.{sym, ◌∙◌}
use Rattle.ic_share.proofs.UsersLemmas.{no_user, spelled_user}
use Rattle.ic_share.proofs.line.user_of.Goals as goal

pub returns-then-is_empty : goal.returns-then-is_empty
returns-then-is_empty c = no_user c.args.word.now (sym c.is_empty.ensures ∙ c.if-is_empty.true)

pub returns : goal.returns
returns c = spelled_user c.args.word.now c.text_of.result _ c.utf8.word (sym c.is_empty.ensures ∙ c.if-is_empty.false) c.text_of.ensures
