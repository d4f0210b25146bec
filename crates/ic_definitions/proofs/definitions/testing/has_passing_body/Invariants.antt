use Rattle.std.proofs.Common.{◌≡◌, drop}
use Rattle.std.specs.List.{list_any}
use Rattle.ic_definitions.specs.Tested.{passes_body}
use Rattle.ic_definitions.proofs.definitions.testing.has_passing_body.Given as goal

-- what is left decides
abbrev pub invariant-loop-definition : goal.invariant-loop-definition
invariant-loop-definition g l = list_any (passes_body (g.T.FormulaTest.passing l.test)) (drop l.definition-index l.definitions) ≡ list_any (passes_body (g.T.FormulaTest.passing l.test)) l.definitions
