use Rattle.ic_c.proofs.RunLemmas.{on_err, ran_first, ran_on}
use Rattle.ic_c.proofs.session.Open.run.Goals as goal

pub returns-in_err-step_on-clause-err : goal.returns-in_err-step_on-clause-err
returns-in_err-step_on-clause-err c =
    let left = c.in_err-step_on.ensures.err in
    on_err c.from_residual.result _ (ran_first c.args.bytes.now c.lines.rest.now _ c.in-Some.first.rest.now c.args.self.now c.lines.self c.step_on.new.self c.lines.invariant c.in-Some.ensures left.0 left.1)

pub lines-preserved : goal.lines-preserved
lines-preserved c =
    let does = c.in_ok-step_on.ensures in
    ran_on c.args.bytes.now c.lines.rest.now _ c.in-Some.first.rest.now c.args.self.now c.lines.self c.step_on.new.self c.lines.invariant c.in-Some.ensures does.book does.reply
