use Rattle.std.proofs.Common.{◌≡◌, ◌<◌, ℕ, true}
use Rattle.ic_pool.specs.Pool.{is_among}
use Rattle.ic_pool.proofs.MergeLemmas.{AscendTo}
use Rattle.ic_pool.proofs.pool.index.all_places.Given as goal

-- those before are there
abbrev pub invariant-loop-at : goal.invariant-loop-at
invariant-loop-at l = record {
  ascend : AscendTo l.at l.places.items;
  all : (q : ℕ) → q < l.at → is_among q l.places.items ≡ true;
}
