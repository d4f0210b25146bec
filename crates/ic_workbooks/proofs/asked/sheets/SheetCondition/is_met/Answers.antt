use Rattle.std.proofs.Common.{sym, subst}
use Rattle.std.specs.Bool.{Decides}
use Rattle.ic_workbooks.specs.Filled.{IsMet}
use Rattle.ic_workbooks.specs.declared.asked.sheets.SheetCondition.{SheetCondition}
use Rattle.ic_workbooks.proofs.asked.sheets.SheetCondition.is_met.Goals as goal

pub returns-in-Places : goal.returns-in-Places
returns-in-Places c = subst (λ (k : SheetCondition). Decides c.lies_in_sheet.result (IsMet k c.args.styles.now c.args.sheet.now)) (sym c.in-Places.is) c.lies_in_sheet.ensures

pub returns-in-Formulas : goal.returns-in-Formulas
returns-in-Formulas c = subst (λ (k : SheetCondition). Decides c.has_formulas.result (IsMet k c.args.styles.now c.args.sheet.now)) (sym c.in-Formulas.is) c.has_formulas.ensures

pub returns-in-Styles : goal.returns-in-Styles
returns-in-Styles c = subst (λ (k : SheetCondition). Decides c.is_styled.result (IsMet k c.args.styles.now c.args.sheet.now)) (sym c.in-Styles.is) c.is_styled.ensures

pub returns-in-Arrays : goal.returns-in-Arrays
returns-in-Arrays c = subst (λ (k : SheetCondition). Decides c.has_whole_arrays.result (IsMet k c.args.styles.now c.args.sheet.now)) (sym c.in-Arrays.is) c.has_whole_arrays.ensures

pub returns-in-Merges : goal.returns-in-Merges
returns-in-Merges c = subst (λ (k : SheetCondition). Decides c.has_separate_merges.result (IsMet k c.args.styles.now c.args.sheet.now)) (sym c.in-Merges.is) c.has_separate_merges.ensures

pub returns-in-Layout : goal.returns-in-Layout
returns-in-Layout c = subst (λ (k : SheetCondition). Decides c.is_laid_out.result (IsMet k c.args.styles.now c.args.sheet.now)) (sym c.in-Layout.is) c.is_laid_out.ensures
