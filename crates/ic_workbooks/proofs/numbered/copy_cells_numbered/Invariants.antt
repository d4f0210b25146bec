use Rattle.ic_workbooks.proofs.NumberedLemmas.{CopiedTo}
use Rattle.ic_workbooks.proofs.numbered.copy_cells_numbered.Given as goal

abbrev pub invariant-loop-place : goal.invariant-loop-place
invariant-loop-place l = CopiedTo l.numbers l.cells l.out l.place-iterator
