use Rattle.std.proofs.Common.{◌∙◌}
use Rattle.ic_laws.specs.Parse.{row, past_row_sign}
use Rattle.ic_laws.proofs.parsing.ListFuelLemmas.{rows_shrink}
use Rattle.ic_tree.proofs.ListSteps.{list_fails, list_last, list_more, list_smaller}
use Rattle.ic_tree.proofs.reader.array.read_rows.Goals as goal

pub returns-in_default : goal.returns-in_default
returns-in_default g c =
    let d = g.D.Dialect.meaning c.args.d.now in
    list_fails row (past_row_sign d) (rows_shrink d) c.items.rows.items _ _ _ c.in_ok-next.ensures c.in_default.is ∙ c.items.invariant

pub returns-then-not-branch : goal.returns-then-not-branch
returns-then-not-branch g c =
    let d = g.D.Dialect.meaning c.args.d.now in
    list_last row (past_row_sign d) (rows_shrink d) c.items.rows.items _ _ _ _ _ _ _ c.in_ok-next.ensures c.in-Some.is (c.from.ensures ∙ (c.shrink_to_fit.ensures.items ∙ c.in_ok-push.ensures.items)) c.in_ok-take_row_sign.ensures c.if-not-branch.true ∙ c.items.invariant

pub items-smaller : goal.items-smaller
items-smaller g c =
    let d = g.D.Dialect.meaning c.args.d.now in
    list_smaller row (past_row_sign d) (rows_shrink d) _ _ _ _ _ _ c.in_ok-next.ensures c.in-Some.is c.in_ok-take_row_sign.ensures c.if-not-branch.false

pub items-preserved : goal.items-preserved
items-preserved g c =
    let d = g.D.Dialect.meaning c.args.d.now in
    list_more row (past_row_sign d) (rows_shrink d) c.items.rows.items _ _ _ _ _ _ _ c.in_ok-next.ensures c.in-Some.is c.in_ok-push.ensures.items c.in_ok-take_row_sign.ensures c.if-not-branch.false ∙ c.items.invariant
