use Rattle.std.proofs.Common.{◌≡◌, ◌+◌}
use Rattle.std.specs.BTreeMap.{values}
use Rattle.std.specs.List.{count_by}
use Rattle.ic_run.specs.Counts.{has_formula}
use Rattle.ic_run.proofs.counts.count_formulas.Given as goal

-- what is counted so far, and the cells that are left
abbrev pub invariant-loop-cell : goal.invariant-loop-cell
invariant-loop-cell l = l.n + count_by has_formula l.cell-iterator ≡ count_by has_formula (values l.map)
