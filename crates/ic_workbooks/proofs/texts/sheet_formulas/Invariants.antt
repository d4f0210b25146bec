use Rattle.std.proofs.Common.{Some, take}
use Rattle.ic_workbooks.specs.Texts.{AreRead, sheet_formula_in}
use Rattle.ic_workbooks.proofs.texts.sheet_formulas.Given as goal

-- those so far
abbrev pub invariant-loop-text : goal.invariant-loop-text
invariant-loop-text g l = AreRead (sheet_formula_in l.tables (g.N.Finder.scene l.names) l.id) (take l.text-index l.texts) (Some l.formulas.items)
