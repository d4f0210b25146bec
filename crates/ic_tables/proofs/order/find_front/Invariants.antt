use Rattle.std.proofs.Common.{chars, take}
use Rattle.ic_laws.specs.Name.{fold}
use Rattle.ic_tables.specs.Order.{BeginsWithNone, number_at}
use Rattle.ic_tables.proofs.order.find_front.Given as goal

-- no front folds to an entry so far
abbrev pub invariant-loop-entry : goal.invariant-loop-entry
invariant-loop-entry l = BeginsWithNone (λ front. number_at (take l.entry-index l.entries) (fold front)) (chars l.text)
