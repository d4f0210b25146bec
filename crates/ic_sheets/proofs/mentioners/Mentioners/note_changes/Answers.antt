use Rattle.ic_pool.specs.declared.pool.rewrites.Replacement.{Replacement}
use Rattle.std.proofs.Common.{take}
use Rattle.ic_sheets.specs.Mentioners.{KnowsFormula}
use Rattle.ic_sheets.proofs.MentionerLemmas.{all_weaker, known_next}
use Rattle.ic_sheets.proofs.mentioners.Mentioners.note_changes.Goals as goal

pub loop-change-preserved : goal.loop-change-preserved
loop-change-preserved c =
    let id = c.args.id in
    let before = c.loop-change.self in
    let after = c.note_again.new.self in
    let changes = c.args.changes.now in
    let i = c.loop-change.change-index in
    record {
      noted = known_next (λ (change : Replacement). KnowsFormula after id change.formula) changes i c.change-item.result c.loop-change-test.true c.change-item.is
          (all_weaker (λ (change : Replacement). KnowsFormula before id change.formula) (λ (change : Replacement). KnowsFormula after id change.formula) (λ change. c.note_again.ensures.kept id change.formula) (take i changes) c.loop-change.invariant.noted) c.note_again.ensures.noted;
      kept = λ q formula known. c.note_again.ensures.kept q formula (c.loop-change.invariant.kept q formula known);
    }
