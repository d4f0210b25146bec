use Rattle.ic_definitions.specs.declared.bodies.NewBody.{NewBody}
use Rattle.ic_definitions.proofs.MentionedBodies.{known_next}
use Rattle.ic_definitions.proofs.mentioned.Mentioned.note_all.Goals as goal

pub loop-new-preserved : goal.loop-new-preserved
loop-new-preserved c = record {
  noted = known_next (λ (new : NewBody). new.body) c.loop-new.self c.note.new.self c.args.bodies.now c.loop-new.new-index c.new-item.result c.loop-new-test.true c.new-item.is c.note.ensures.kept c.note.ensures.noted c.loop-new.invariant.noted;
  kept = λ body knows. c.note.ensures.kept body (c.loop-new.invariant.kept body knows);
}
