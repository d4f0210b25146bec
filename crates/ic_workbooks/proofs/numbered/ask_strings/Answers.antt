use Rattle.std.proofs.Common.{◌+◌, refl}
use Rattle.ic_workbooks.specs.HandedIn.{HasStrings}
use Rattle.ic_workbooks.proofs.AskedLemmas.{all_next}
use Rattle.ic_workbooks.proofs.numbered.ask_strings.Goals as goal

pub loop-worksheet-preserved : goal.loop-worksheet-preserved
loop-worksheet-preserved c =
    all_next (HasStrings c.args.count) c.args.worksheets.now c.loop-worksheet.worksheet-index (c.loop-worksheet.worksheet-index + 1) c.worksheet-item.result refl c.loop-worksheet-test.true c.worksheet-item.is c.loop-worksheet.invariant
    (c.has_strings.ensures.0 c.if-not-has_strings.false)
