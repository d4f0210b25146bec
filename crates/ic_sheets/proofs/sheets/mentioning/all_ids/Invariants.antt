use Rattle.std.proofs.Common.{◌≡◌, take}
use Rattle.ic_sheets.proofs.SearchLemmas.{ids}
use Rattle.ic_sheets.proofs.sheets.mentioning.all_ids.Given as goal

-- those of the sheets before
abbrev pub invariant-loop-sheet : goal.invariant-loop-sheet
invariant-loop-sheet l = l.ids.items ≡ ids (take l.sheet-index l.sheets)
