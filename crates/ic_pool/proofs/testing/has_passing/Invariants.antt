use Rattle.std.proofs.Common.{◌≡◌, drop}
use Rattle.std.specs.List.{list_any}
use Rattle.ic_pool.proofs.testing.has_passing.Given as goal

-- what is left decides
abbrev pub invariant-loop-formula : goal.invariant-loop-formula
invariant-loop-formula g l = list_any (g.T.FormulaTest.passing l.test l.scope) (drop l.formula-index l.formulas) ≡ list_any (g.T.FormulaTest.passing l.test l.scope) l.formulas
