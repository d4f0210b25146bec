use Rattle.std.proofs.Common.{◌≡◌, map, length}
use Rattle.ic_tables.specs.Tables.{are_different}
use Rattle.ic_tables.proofs.ids.have_different_ids.Given as goal

-- what is left decides
abbrev pub invariant-loop-first : goal.invariant-loop-first
invariant-loop-first g l = are_different (map g.T.HasId.id_of l.rest) ≡ are_different (map g.T.HasId.id_of l.items)

abbrev pub decreases-loop-first : goal.decreases-loop-first
decreases-loop-first g l = length l.rest
