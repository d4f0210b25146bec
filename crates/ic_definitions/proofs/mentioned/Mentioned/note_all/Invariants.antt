use Rattle.std.proofs.Common.{take}
use Rattle.std.specs.List.{AllByRecursion}
use Rattle.ic_definitions.specs.Mentioned.{KnowsFormula}
use Rattle.ic_definitions.proofs.MentionedBodies.{KeepsKnown}
use Rattle.ic_definitions.proofs.mentioned.Mentioned.note_all.Given as goal

-- those before are known, and what was
abbrev pub invariant-loop-new : goal.invariant-loop-new
invariant-loop-new l = record {
  noted : AllByRecursion (λ new. KnowsFormula l.self new.body) (take l.new-index l.bodies);
  kept : KeepsKnown l.initial.self l.self;
}
