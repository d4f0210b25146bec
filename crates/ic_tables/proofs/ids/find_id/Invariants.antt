use Rattle.std.proofs.Common.{◌≡◌, bytes_eq, chars, find, length}
use Rattle.ic_tables.proofs.ids.find_id.Given as goal

-- what is left decides
abbrev pub invariant-loop-first : goal.invariant-loop-first
invariant-loop-first g l =
    find (λ item. bytes_eq (g.T.HasId.id_of item) (chars l.id)) l.rest ≡ find (λ item. bytes_eq (g.T.HasId.id_of item) (chars l.id)) l.items

abbrev pub decreases-loop-first : goal.decreases-loop-first
decreases-loop-first g l = length l.rest
