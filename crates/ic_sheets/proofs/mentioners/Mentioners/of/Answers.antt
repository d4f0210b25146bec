use Rattle.std.proofs.Common.{take}
use Rattle.ic_sheets.specs.Mentioners.{KnowsPool}
use Rattle.ic_sheets.specs.declared.sheet.Sheet.{Sheet}
use Rattle.ic_sheets.proofs.IndexLemmas.{read_boxed}
use Rattle.ic_sheets.proofs.MentionerLemmas.{known_next, sheets_kept}
use Rattle.ic_sheets.proofs.mentioners.Mentioners.of.Goals as goal

pub loop-sheet-preserved : goal.loop-sheet-preserved
loop-sheet-preserved c =
    let before = c.loop-sheet.mentioners in
    let after = c.note_from.new.self in
    let i = c.loop-sheet.sheet-index in
    known_next (λ (s : Sheet). KnowsPool after s.id s.pool.formulas) c.args.sheets.now i c.as_ref-sheet.result.now c.loop-sheet-test.true (read_boxed c.args.sheets.now i c.as_ref-sheet.ensures c.sheet-item.is) (sheets_kept before after c.note_from.ensures.kept (take i c.args.sheets.now) c.loop-sheet.invariant) c.note_from.ensures.noted
