use Rattle.std.proofs.Common.{◌≡◌, chars, map, string_bytes, take}
use Rattle.ic_tables.proofs.ids.copy_ids.Given as goal

-- the ids so far
abbrev pub invariant-loop-item : goal.invariant-loop-item
invariant-loop-item g l = map (λ s. chars (string_bytes s)) l.ids.items ≡ map g.T.HasId.id_of (take l.item-index l.items)
