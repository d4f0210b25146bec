use Rattle.ic_sheets.proofs.RecordLemmas.{NamedTo}
use Rattle.ic_sheets.specs.Index.{FindsSheets}
use Rattle.ic_sheets.proofs.records.has_apart_names.Given as goal

abbrev pub invariant-loop-index : goal.invariant-loop-index
invariant-loop-index l = NamedTo l.worksheets l.index l.named × FindsSheets l.ids l.named
