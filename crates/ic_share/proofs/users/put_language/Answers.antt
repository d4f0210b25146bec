use Rattle.ic_share.proofs.UsersLemmas.{language_put}
use Rattle.ic_share.proofs.users.put_language.Goals as goal

pub returns : goal.returns
returns c = language_put _ _ _ _ c.requires c.set_language.ensures.does.done
