use Rattle.std.proofs.Common.{◌≡◌, ◌++◌, map}
use Rattle.std.specs.Prelude.{flat_map}
use Rattle.ic_parts.specs.Lent.{kept_in, placed}
use Rattle.ic_parts.proofs.lent.push_formulas.Given as goal

-- those so far, and those of the cells that are left
abbrev pub invariant-loop-place : goal.invariant-loop-place
invariant-loop-place l = map placed l.formulas.items ++ flat_map (kept_in l.pool.formulas) l.place-iterator ≡ map placed l.initial.formulas.items ++ flat_map (kept_in l.pool.formulas) l.cells.entries
