use Rattle.std.proofs.Common.{◌≤◌, drop, length, map}
use Rattle.ic_tables.specs.Order.{IsOrderFrom}
use Rattle.ic_tables.proofs.order.order_words.Given as goal

-- the words from this number on are in their places
abbrev pub invariant-loop-number : goal.invariant-loop-number
invariant-loop-number g l = (l.number ≤ length l.words) × IsOrderFrom l.number (drop l.number (map g.T.HasId.id_of l.words)) l.entries.items

abbrev pub decreases-loop-number : goal.decreases-loop-number
decreases-loop-number g l = l.number
