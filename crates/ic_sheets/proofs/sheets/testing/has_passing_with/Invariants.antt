use Rattle.std.proofs.Common.{◌≡◌, drop}
use Rattle.std.specs.List.{list_any}
use Rattle.ic_sheets.specs.Tested.{passes_with}
use Rattle.ic_sheets.proofs.sheets.testing.has_passing_with.Given as goal

-- what is left decides
abbrev pub invariant-loop-id : goal.invariant-loop-id
invariant-loop-id g l = list_any (passes_with (g.T.FormulaTest.passing l.test) l.sheets) (drop l.id-index l.ids) ≡ list_any (passes_with (g.T.FormulaTest.passing l.test) l.sheets) l.ids
