use Rattle.std.proofs.Common.{◌<◌}
use Rattle.std.specs.List.{AllAdjacentBelow}
use Rattle.ic_sheets.proofs.sheets.spots.do_rise.Given as goal

-- those before this place rise
abbrev pub invariant-loop-place : goal.invariant-loop-place
invariant-loop-place l = AllAdjacentBelow (λ x y. x.id < y.id) l.spots l.place
