use Rattle.std.proofs.Common.{◌+◌, false, true, ◌≡◌, ◌∙◌, refl, sym}
use Rattle.ic_workbooks.specs.Filled.{IsMet}
use Rattle.ic_sheets.proofs.IndexLemmas.{read_boxed}
use Rattle.ic_workbooks.proofs.AskedLemmas.{all_end, all_next, not_all}
use Rattle.ic_workbooks.proofs.asked.sheets.ask_each.Goals as goal

pub loop-sheet-preserved : goal.loop-sheet-preserved
loop-sheet-preserved c =
    all_next (IsMet c.args.condition c.args.styles.now) c.args.sheets.now c.loop-sheet.sheet-index (c.loop-sheet.sheet-index + 1) c.as_ref.result.now refl c.loop-sheet-test.true (read_boxed c.args.sheets.now c.loop-sheet.sheet-index c.as_ref.ensures c.sheet-item.is) c.loop-sheet.invariant
    (c.is_met.ensures.0 c.if-not-is_met.false)

pub returns-then-not-is_met : goal.returns-then-not-is_met
returns-then-not-is_met c = (
  c.number.ensures,
  not_all (IsMet c.args.condition c.args.styles.now) c.args.sheets.now c.loop-sheet.sheet-index (c.loop-sheet.sheet-index + 1) c.as_ref.result.now refl c.loop-sheet-test.true (read_boxed c.args.sheets.now c.loop-sheet.sheet-index c.as_ref.ensures c.sheet-item.is)
      (λ met. let no : false ≡ true = sym c.if-not-is_met.true ∙ c.is_met.ensures.1 met in cc),
)

pub returns : goal.returns
returns c = all_end (IsMet c.args.condition c.args.styles.now) c.args.sheets.now c.loop-sheet.sheet-index c.loop-sheet.invariant c.loop-sheet-test.false
