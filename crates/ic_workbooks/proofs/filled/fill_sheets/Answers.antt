use Rattle.std.proofs.Common.{◌+◌, refl, sym, subst}
use Rattle.std.specs.List.{AllByRecursion}
use Rattle.ic_workbooks.specs.Asked.{Breaks}
use Rattle.ic_workbooks.specs.Filled.{HasSheetTexts, contents_scene}
use Rattle.ic_workbooks.proofs.FilledLemmas.{sheet_broken, sheets_end, sheets_next, sheets_scene, sheets_start, sheets_there}
use Rattle.ic_workbooks.proofs.FirstLemmas.{breaks_so, match_error}
use Rattle.ic_workbooks.proofs.NameIndexLemmas.{indexed_scene}
use Rattle.ic_workbooks.proofs.filled.fill_sheets.Goals as goal

pub loop-index-init : goal.loop-index-init
loop-index-init c = sheets_start c.args.tables.now c.args.numbers.now c.args.worksheets.now c.args.contents.now c.requires.started c.args.contents.now refl

pub fill_sheet-requires-clause-indexed : goal.fill_sheet-requires-clause-indexed
fill_sheet-requires-clause-indexed c =
    indexed_scene c.args.names.now c.args.contents.now c.loop-index.contents c.requires.indexed
    (sheets_scene c.args.tables.now c.args.numbers.now c.args.worksheets.now c.args.contents.now c.requires.started c.loop-index.index c.loop-index.contents c.loop-index.invariant)

pub fill_sheet-requires-clause-within : goal.fill_sheet-requires-clause-within
fill_sheet-requires-clause-within c = sheets_there c.args.tables.now c.args.numbers.now c.args.worksheets.now c.args.contents.now c.requires.started c.loop-index.index c.loop-index.contents c.loop-index.invariant c.loop-index-test.true

pub loop-index-preserved : goal.loop-index-preserved
loop-index-preserved c =
    sheets_next c.args.tables.now c.args.numbers.now c.args.worksheets.now c.args.contents.now c.requires.started c.loop-index.index c.loop-index.contents c.loop-index.invariant
    (c.loop-index.index + 1) c.index-worksheets-index.result refl c.loop-index-test.true c.index-worksheets-index.is c.fill_sheet.new.contents c.in_ok-fill_sheet.ensures

pub returns-in_err-fill_sheet : goal.returns-in_err-fill_sheet
returns-in_err-fill_sheet c =
    match_error _ _ c.from_residual.result c.from_residual.ensures
    (λ e same.
    breaks_so 5 (HasSheetTexts c.args.tables.now (contents_scene c.loop-index.contents) c.index-worksheets-index.result) (AllByRecursion (HasSheetTexts c.args.tables.now (contents_scene c.args.contents.now)) c.args.worksheets.now)
    (sheet_broken c.args.tables.now c.args.numbers.now c.args.worksheets.now c.args.contents.now c.requires.started c.loop-index.index c.loop-index.contents c.loop-index.invariant
    (c.loop-index.index + 1) c.index-worksheets-index.result refl c.loop-index-test.true c.index-worksheets-index.is)
    e
    (subst (Breaks 5 (HasSheetTexts c.args.tables.now (contents_scene c.loop-index.contents) c.index-worksheets-index.result)) (sym same) c.in_err-fill_sheet.ensures))

pub returns : goal.returns
returns c = sheets_end c.args.tables.now c.args.numbers.now c.args.worksheets.now c.args.contents.now c.requires.started c.loop-index.index c.loop-index.contents c.loop-index.invariant c.loop-index-test.false
