use Rattle.std.proofs.Common.{sym, subst}
use Rattle.std.specs.List.{AllByRecursion}
use Rattle.ic_workbooks.specs.Asked.{Breaks}
use Rattle.ic_workbooks.specs.Filled.{IsMet}
use Rattle.ic_workbooks.specs.declared.asked.sheets.SheetCondition.TheVariants as conditions
use Rattle.ic_workbooks.proofs.FirstLemmas.{match_error}
use Rattle.ic_workbooks.proofs.asked.sheets.ask_styles.Goals as goal

pub returns-in_err-ask_each : goal.returns-in_err-ask_each
returns-in_err-ask_each c =
    match_error _ _ c.from_residual.result c.from_residual.ensures
    (λ e same. subst (Breaks 9 (AllByRecursion (IsMet conditions.Styles c.args.styles.now) c.args.sheets.now)) (sym same) c.in_err-ask_each.ensures)

pub returns : goal.returns
returns c = (c.len.ensures.styles, c.in_ok-ask_each.ensures)
