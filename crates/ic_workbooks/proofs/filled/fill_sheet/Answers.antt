use Rattle.std.proofs.Common.{◌∙◌, refl, sym, subst}
use Rattle.ic_workbooks.specs.Asked.{Breaks}
use Rattle.ic_workbooks.specs.Filled.{HasSheetTexts, contents_scene}
use Rattle.ic_workbooks.proofs.FilledLemmas.{filled_so}
use Rattle.ic_workbooks.proofs.FirstLemmas.{match_error}
use Rattle.ic_workbooks.proofs.filled.fill_sheet.Goals as goal

pub returns-in_err-pool : goal.returns-in_err-pool
returns-in_err-pool c =
    match_error _ _ c.from_residual.result c.from_residual.ensures
    (λ e same. subst (Breaks 5 (HasSheetTexts c.args.tables.now (contents_scene c.args.contents.now) c.args.worksheet.now)) (sym same) c.in_err-pool.ensures)

pub returns : goal.returns
returns c = record {
  texts = c.in_ok-pool.ensures.0;
  sheets = c.fill.ensures
      ∙ filled_so c.args.tables.now (contents_scene c.args.contents.now) c.args.numbers.now c.args.worksheet.now c.args.index c.args.contents.now.sheets c.in_ok-pool.pool c.in_ok-grid.grid c.in_ok-tab.tab c.in_ok-pool.ensures.1 c.in_ok-grid.ensures c.in_ok-tab.ensures;
  definitions = refl;
}
