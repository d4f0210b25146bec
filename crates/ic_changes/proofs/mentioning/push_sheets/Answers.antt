use Rattle.ic_sheets.proofs.IndexLemmas.{read_boxed}
use Rattle.ic_changes.proofs.MentioningLemmas.{next_listed}
use Rattle.ic_changes.specs.Mentioning.{cells_passing, mentions}
use Rattle.ic_changes.proofs.mentioning.push_sheets.Goals as goal

pub loop-sheet-preserved : goal.loop-sheet-preserved
loop-sheet-preserved c =
    next_listed (cells_passing (mentions c.args.sought.now)) c.args.sheets.now c.loop-sheet.sheet-index c.as_ref.result.now c.loop-sheet.sites.items c.push_sheet.new.sites.items _ c.loop-sheet-test.true (read_boxed c.args.sheets.now c.loop-sheet.sheet-index c.as_ref.ensures c.sheet-item.is) c.loop-sheet.invariant c.in_ok-push_sheet.ensures
