use Rattle.std.proofs.Common.{◌≡◌, map}
use Rattle.std.specs.Prelude.{max, nat_abs}
use Rattle.std.specs.BTreeMap.{keys}
use Rattle.ic_laws.specs.Greatest.{greatest}
use Rattle.ic_parts.specs.Markup.{last_of}
use Rattle.ic_parts.proofs.markup.last_of.Given as goal

-- the greatest so far and those that are left
abbrev pub invariant-loop-place : goal.invariant-loop-place
invariant-loop-place l =
    (max l.row (greatest (map (λ p. nat_abs p.0) l.place-iterator)) ≡ (last_of (keys l.cells)).0)
    × (max l.column (greatest (map (λ p. nat_abs p.1) l.place-iterator)) ≡ (last_of (keys l.cells)).1)
