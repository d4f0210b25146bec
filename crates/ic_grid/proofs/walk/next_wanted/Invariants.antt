use Rattle.std.proofs.Common.{◌≡◌, ◌≤ℤ◌, true}
use Rattle.std.specs.FinMap as finite
use Rattle.ic_grid.specs.Walk.{NoneUpTo, is_from, wanted_at}
use Rattle.ic_grid.proofs.walk.next_wanted.Given as goal

-- it has come to a row at least as far as the turn, and no cell of the block that is wanted stands on the way
abbrev pub invariant-loop-turn : goal.invariant-loop-turn
invariant-loop-turn l = record {
  top : l.block.row ≤ℤ l.at.0;
  turn : l.turn ≤ℤ l.at.0;
  behind : is_from l.fn.from l.at ≡ true;
  least : l.block.column ≤ℤ l.at.1;
  passed : NoneUpTo (wanted_at l.wanted l.block (finite.get l.cells)) l.block l.fn.from l.at;
}
