use Rattle.std.proofs.Common.{take}
use Rattle.ic_sheets.specs.Remade.{IsRemade}
use Rattle.ic_sheets.specs.Rewriting.{PreparesEach}
use Rattle.ic_sheets.proofs.sheets.rewriting.prepare_remade.Given as goal

-- the first so many ids have what was prepared for their sheets
abbrev pub invariant-loop-id : goal.invariant-loop-id
invariant-loop-id g l = PreparesEach (IsRemade (g.R.Remaking.made l.remaking)) l.prepared.items (take l.id-index l.ids) l.sheets
