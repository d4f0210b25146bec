use Rattle.ic_sheets.proofs.PartLemmas.{GatheredSoFar}
use Rattle.ic_sheets.proofs.sheets.mentioning.ids_at.Given as goal

abbrev pub invariant-loop-index : goal.invariant-loop-index
invariant-loop-index l = GatheredSoFar l.sheets l.indexes.keys l.index-iterator l.ids.items
