use Rattle.std.proofs.Common.{◌≡◌, ◌-◌, ◌≤◌, true, not, chars, drop, length, take}
use Rattle.std.specs.List.{list_all}
use Rattle.ic_laws.specs.Name.{fold}
use Rattle.ic_tables.specs.Order.{comes_before}
use Rattle.ic_tables.proofs.order.place_of.Given as goal

-- what is below the low end comes before the folding, and what is above the high end doesn't
abbrev pub invariant-halving : goal.invariant-halving
invariant-halving l =
    (l.low ≤ l.high) × (l.high ≤ length l.entries)
    × (list_all (λ e. comes_before e.folded (fold (chars l.text))) (take l.low l.entries) ≡ true)
    × (list_all (λ e. not (comes_before e.folded (fold (chars l.text)))) (drop l.high l.entries) ≡ true)

abbrev pub decreases-halving : goal.decreases-halving
decreases-halving l = l.high - l.low
