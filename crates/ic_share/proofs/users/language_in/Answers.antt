use Rattle.ic_share.proofs.UsersLemmas.{told_language}
use Rattle.ic_share.proofs.users.language_in.Goals as goal

pub returns-in-Ok-clause-code : goal.returns-in-Ok-clause-code
returns-in-Ok-clause-code c = told_language _ _ c.in-Ok.ensures.does.done
