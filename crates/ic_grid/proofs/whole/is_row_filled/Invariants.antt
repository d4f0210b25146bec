use Rattle.std.proofs.Common.{◌≡◌, true}
use Rattle.ic_grid.proofs.HandedInLemmas.{AreSo}
use Rattle.ic_grid.specs.HandedIn.{is_filled_at}
use Rattle.ic_grid.specs.Shape.{celled}
use Rattle.ic_grid.proofs.whole.is_row_filled.Given as goal

-- those so far are
abbrev pub invariant-loop-column : goal.invariant-loop-column
invariant-loop-column l = AreSo (λ n. is_filled_at celled l.cells l.block (l.row, n) ≡ true) l.block.column l.column
