use Rattle.std.proofs.Common.{◌++◌, subst, sym}
use Rattle.std.specs.Option.{option_to_list}
use Rattle.ic_dump.specs.Records.{AreOthers}
use Rattle.ic_dump.proofs.StandingLemmas.{on_ok_both, one_more}
use Rattle.ic_dump.proofs.scopes.push_scope.Goals as goal

pub returns-in-Some : goal.returns-in-Some
returns-in-Some c = λ own past h.
    on_ok_both c.push_new.result
    (λ listed seen. subst (λ scope. AreOthers c.push_new.new.seen c.push_new.new.ids.items own (past ++ option_to_list scope)) (sym c.in-Some.is)
    (one_more c.args.seen.now c.push_new.new.seen c.args.ids.now.items c.push_new.new.ids.items own past c.in-Some.id h listed seen))
    c.push_new.ensures.listed c.push_new.ensures.seen
