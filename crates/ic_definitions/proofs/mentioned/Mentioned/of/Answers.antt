use Rattle.std.proofs.Common.{subst}
use Rattle.ic_laws.specs.CoreBook.{Definition}
use Rattle.ic_definitions.specs.Mentioned.{KnowsFormula}
use Rattle.ic_definitions.proofs.MentionedBodies.{known_next}
use Rattle.ic_definitions.proofs.mentioned.Mentioned.of.Goals as goal

pub loop-definition-preserved : goal.loop-definition-preserved
loop-definition-preserved c =
    known_next (λ (d : Definition). d.body) c.loop-definition.mentioned c.note.new.self c.args.definitions.now c.loop-definition.definition-index c.definition-item.result c.loop-definition-test.true c.definition-item.is
    c.note.ensures.kept (subst (KnowsFormula c.note.new.self) c.body.ensures c.note.ensures.noted) c.loop-definition.invariant
