use Rattle.std.proofs.Common.{◌↔◌}
use Rattle.ic_workbooks.specs.Referring.{HasCellFormulas}
use Rattle.ic_workbooks.proofs.ReferLemmas.{HasEntries}
use Rattle.ic_workbooks.proofs.referring.has_formulas.Given as goal

-- it depends on the cells that are left
abbrev pub invariant-loop-place : goal.invariant-loop-place
invariant-loop-place l = HasCellFormulas l.pool.formulas l.cells ↔ HasEntries l.pool.formulas l.place-iterator
