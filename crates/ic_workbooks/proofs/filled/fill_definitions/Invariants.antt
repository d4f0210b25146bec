use Rattle.ic_workbooks.proofs.FilledLemmas.{DefinitionsTo}
use Rattle.ic_workbooks.proofs.filled.fill_definitions.Given as goal

abbrev pub invariant-loop-index : goal.invariant-loop-index
invariant-loop-index l = DefinitionsTo l.tables l.records l.fn.contents l.index l.contents
