use Rattle.std.proofs.Common.{subst, List, ℕ, chars}
use Rattle.ic_tables.proofs.OrderLemmas.{front_found, front_not_yet}
use Rattle.ic_tables.specs.Order.{FoldsFront, FoldsNoFront}
use Rattle.ic_tables.proofs.order.find_front.Goals as goal

pub returns-in-Some : goal.returns-in-Some
returns-in-Some c =
    front_found _ _ _ c.loop-entry.entry-index c.entry-item.result c.loop-entry-test.true c.entry-item.is c.loop-entry.invariant
    (subst (λ (k : List ℕ). FoldsFront k (chars c.args.text.now) (chars c.in-Some.rest.now)) c.as_str.ensures.characters c.in-Some.ensures)

pub loop-entry-preserved : goal.loop-entry-preserved
loop-entry-preserved c =
    front_not_yet _ _ c.loop-entry.entry-index c.entry-item.result c.loop-entry-test.true c.entry-item.is c.loop-entry.invariant
    (subst (λ (k : List ℕ). FoldsNoFront k (chars c.args.text.now)) c.as_str.ensures.characters c.in_default.ensures)
