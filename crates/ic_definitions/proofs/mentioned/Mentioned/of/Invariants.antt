use Rattle.std.proofs.Common.{take}
use Rattle.ic_definitions.specs.Mentioned.{KnowsBodies}
use Rattle.ic_definitions.proofs.mentioned.Mentioned.of.Given as goal

-- those before are known
abbrev pub invariant-loop-definition : goal.invariant-loop-definition
invariant-loop-definition l = KnowsBodies l.mentioned (take l.definition-index l.definitions)
