use Rattle.std.proofs.Common.{◌≡◌, drop}
use Rattle.std.specs.List.{list_any}
use Rattle.ic_pool.specs.Mentioning.{passes_at}
use Rattle.ic_pool.proofs.pool.testing.has_passing_at.Given as goal

-- what is left decides
abbrev pub invariant-loop-at : goal.invariant-loop-at
invariant-loop-at g l =
    list_any (passes_at (g.T.FormulaTest.passing l.test l.scope) l.formulas) (drop l.at-index l.places) ≡ list_any (passes_at (g.T.FormulaTest.passing l.test l.scope) l.formulas) l.places
