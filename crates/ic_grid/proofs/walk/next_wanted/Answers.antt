use Rattle.std.proofs.Common.{◌+ℤ◌, SFits, w32, arith, rules}
use Rattle.std.proofs.lemmas.Bool.{and_parts, both_ways}
use Rattle.std.proofs.lemmas.Int.{ints}
use Rattle.std.specs.FinMap as finite
use Rattle.ic_grid.proofs.BlockLemmas.{area_bounds}
use Rattle.ic_grid.proofs.WalkLemmas.{done, found, from_far, from_itself, next_column, next_from, next_row, none_in_columns, none_left, passed_more}
use Rattle.ic_grid.specs.Walk.{wanted_at}
use Rattle.ic_grid.proofs.walk.next_wanted.Goals as goal

pub overflow_add-block : goal.overflow_add-block
overflow_add-block c = let b = area_bounds c.args.block.now c.requires.area in omega (arith, ints, b.last_row, b.row)

pub overflow_add-block-then-from-block : goal.overflow_add-block-then-from-block
overflow_add-block-then-from-block c = let b = area_bounds c.args.block.now c.requires.area in omega (arith, ints, b.last_column, b.column)

pub returns-then-not-may_stand_in-clause-none : goal.returns-then-not-may_stand_in-clause-none
returns-then-not-may_stand_in-clause-none c =
    let b = area_bounds c.args.block.now c.requires.area in
    let clear = c.may_stand_in.ensures (search rules) in
    let fits : SFits w32 (c.args.block.now.column +ℤ c.args.block.now.width) = omega (arith, ints, b.last_column, b.column) in
    none_in_columns c.args.cells.now c.args.wanted c.args.block.now c.args.from (λ p above below. clear p (search rules) (search rules))

pub overflow_add-last_row : goal.overflow_add-last_row
overflow_add-last_row c = let b = area_bounds c.args.block.now c.requires.area in omega (arith, ints)

pub loop-turn-init : goal.loop-turn-init
loop-turn-init c = record {
  top = c.requires.row;
  turn = omega (arith, ints, c.requires.row);
  behind = from_itself c.args.from;
  least = c.requires.column;
  passed = λ q left before. absurd (both_ways _ before (and_parts _ _ left).1);
}

pub returns-in-Found-clause-some : goal.returns-in-Found-clause-some
returns-in-Found-clause-some c =
    found (wanted_at c.args.wanted c.args.block.now (finite.get c.args.cells.now)) c.args.block.now c.args.from c.loop-turn.at c.loop-turn.invariant.passed c.loop-turn.invariant.behind c.in-Found.place c.in-Found.ensures

pub returns-in-End-clause-none : goal.returns-in-End-clause-none
returns-in-End-clause-none c =
    none_left (wanted_at c.args.wanted c.args.block.now (finite.get c.args.cells.now)) c.args.block.now c.args.from c.loop-turn.at c.loop-turn.invariant.passed c.in-End.ensures

pub loop-turn-preserved : goal.loop-turn-preserved
loop-turn-preserved c =
    let b = area_bounds c.args.block.now c.requires.area in
    let f = c.in-Passed.ensures in
    let more = next_row c.args.block.now c.in-Passed.place c.loop-turn.at f.behind c.loop-turn.invariant.least c.row_behind-at.result c.row_behind-at.ensures in
    record {
      top = omega (arith, ints, more, c.loop-turn.invariant.top);
      turn = omega (arith, ints, more, c.loop-turn.invariant.turn);
      behind = from_far c.args.from c.loop-turn.at c.row_behind-at.result c.loop-turn.invariant.behind (next_from c.args.block.now c.in-Passed.place c.loop-turn.at f.behind c.loop-turn.invariant.least c.row_behind-at.result c.row_behind-at.ensures);
      least = next_column c.args.block.now c.in-Passed.place c.row_behind-at.result c.row_behind-at.ensures;
      passed = passed_more (wanted_at c.args.wanted c.args.block.now (finite.get c.args.cells.now)) c.args.block.now c.args.from c.loop-turn.at c.loop-turn.invariant.passed c.in-Passed.place f c.loop-turn.invariant.top c.row_behind-at.result c.row_behind-at.ensures;
    }

pub returns-clause-none : goal.returns-clause-none
returns-clause-none c =
    let b = area_bounds c.args.block.now c.requires.area in
    done (wanted_at c.args.wanted c.args.block.now (finite.get c.args.cells.now)) c.args.block.now c.args.from c.loop-turn.at c.loop-turn.invariant.passed (omega (arith, ints, c.loop-turn.invariant.turn, c.loop-turn-test.false))

pub row_behind-at-requires : goal.row_behind-at-requires
row_behind-at-requires c =
    let b = area_bounds c.args.block.now c.requires.area in
    let f = c.in-Passed.ensures in
    omega (arith, ints, b.last_row, f.above)
