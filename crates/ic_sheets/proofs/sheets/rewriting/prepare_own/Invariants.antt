use Rattle.std.proofs.Common.{take}
use Rattle.ic_sheets.specs.Rewriting.{IsPrepared, PreparesEach}
use Rattle.ic_sheets.proofs.sheets.rewriting.prepare_own.Given as goal

-- the first so many ids have what was prepared for their sheets
abbrev pub invariant-loop-id : goal.invariant-loop-id
invariant-loop-id g l = PreparesEach (IsPrepared (g.C.BookChange.change l.change)) l.prepared.items (take l.id-index l.ids) l.sheets
