use Rattle.std.proofs.Common.{◌≡◌}
use Rattle.ic_grid.proofs.ChangeLemmas.{far}
use Rattle.ic_grid.proofs.SpreadLemmas.{IsSpread}
use Rattle.ic_grid.specs.Block.{first_place}
use Rattle.ic_grid.specs.Shape.{spread}
use Rattle.ic_grid.proofs.value.spread_cells.Given as goal

-- the cells so far, and those of the places that are left
abbrev pub invariant-places : goal.invariant-places
invariant-places l = record {
  anchor : l.anchor ≡ first_place l.block;
  done : IsSpread l.cells l.block (spread l.value) l.items.items l.at;
}

abbrev pub decreases-places : goal.decreases-places
decreases-places l = far l.block l.at
