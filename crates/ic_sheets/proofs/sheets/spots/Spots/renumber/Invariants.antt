use Rattle.std.proofs.Common.{◌≡◌, ℕ}
use Rattle.ic_sheets.specs.Search.{index_with_id}
use Rattle.ic_sheets.specs.Spots.{index_at, renumbered}
use Rattle.ic_sheets.proofs.sheets.spots.Spots.renumber.Given as goal

-- those before this index have theirs
abbrev pub invariant-loop-index : goal.invariant-loop-index
invariant-loop-index l = (q : ℕ) → index_at q l.self.list.items ≡ renumbered l.from l.index (index_with_id q l.sheets) (index_at q l.fn.self.list.items)
