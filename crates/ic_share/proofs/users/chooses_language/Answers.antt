use Rattle.std.proofs.Common.{chars}
use Rattle.ic_share.proofs.ChosenLemmas.{no_command, tells_no, tells_yes}
use Rattle.ic_share.proofs.users.chooses_language.Goals as goal

pub returns-in-Some-clause-no : goal.returns-in-Some-clause-no
returns-in-Some-clause-no c = tells_no (chars c.args.command.now) _ _ c.same_text.result c.in-Some.ensures c.same_text.ensures

pub returns-in-Some-clause-yes : goal.returns-in-Some-clause-yes
returns-in-Some-clause-yes c = tells_yes (chars c.args.command.now) _ _ c.same_text.result c.in-Some.ensures c.same_text.ensures

pub returns-in-None-clause-no : goal.returns-in-None-clause-no
returns-in-None-clause-no c = λ is english. no_command english (chars c.args.command.now) c.in-None.ensures
