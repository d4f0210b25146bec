use Rattle.std.proofs.Common.{[]}
use Rattle.ic_share.proofs.UsersLemmas.{known_at_start}
use Rattle.ic_share.proofs.users.Users.of.Goals as goal

pub returns-clause-known : goal.returns-clause-known
returns-clause-known c = known_at_start c.args.model.now.book [] _ c.new.ensures.empty c.language_in.ensures.valid
