use Rattle.std.proofs.Common.{sym, ◌∙◌}
use Rattle.ic_pool.proofs.ChangeLemmas.{untouched_stays}
use Rattle.ic_pool.proofs.changes.changed_formula.Goals as goal

pub returns-then-not-some_in-clause-becomes : goal.returns-then-not-some_in-clause-becomes
returns-then-not-some_in-clause-becomes g c = untouched_stays (g.C.BookChange.change c.args.change.now) c.args.scope c.args.formula.now (sym c.some_in.ensures ∙ c.if-not-some_in.true)
