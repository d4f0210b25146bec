use Rattle.std.proofs.Common.{◌≡◌, map, take}
use Rattle.ic_sheets.proofs.IndexLemmas.{IsIndexed}
use Rattle.ic_sheets.specs.Records.{started}
use Rattle.ic_sheets.proofs.sheets.started.all_started.Given as goal

-- those so far, which are found by their names
abbrev pub invariant-loop-worksheet : goal.invariant-loop-worksheet
invariant-loop-worksheet l = (l.list.items ≡ map started (take l.worksheet-index l.worksheets)) × IsIndexed l.ids l.list.items
