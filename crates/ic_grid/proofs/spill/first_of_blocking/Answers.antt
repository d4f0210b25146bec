use Rattle.std.proofs.Common.{◌∙◌, sym, arith}
use Rattle.ic_grid.proofs.SpillLemmas.{seek_begun, seek_found, seek_more, seek_none}
use Rattle.ic_grid.proofs.spill.first_of_blocking.Goals as goal

pub loop-turn-init : goal.loop-turn-init
loop-turn-init c = seek_begun c.args.merges.now c.args.cells.now c.args.block.now c.args.count c.first-anchor.result c.first-at.result c.first-anchor.ensures c.first-at.ensures

pub returns-then-blocks : goal.returns-then-blocks
returns-then-blocks c =
    seek_found c.args.merges.now c.args.cells.now c.args.block.now c.args.count c.loop-turn.turn c.first-anchor.result c.loop-turn.at c.loop-turn.invariant c.loop-turn-test.true (sym c.blocks-in-loop-turn.ensures ∙ c.if-blocks.true)

pub loop-turn-preserved : goal.loop-turn-preserved
loop-turn-preserved c =
    seek_more c.args.merges.now c.args.cells.now c.args.block.now c.args.count c.loop-turn.turn c.first-anchor.result c.loop-turn.at c.loop-turn.invariant c.loop-turn-test.true (sym c.blocks-in-loop-turn.ensures ∙ c.if-blocks.false) c.next_place-at.result c.next_place-at.ensures

pub returns : goal.returns
returns c = seek_none c.args.merges.now c.args.cells.now c.args.block.now c.args.count c.loop-turn.turn c.first-anchor.result c.loop-turn.at c.loop-turn.invariant (omega (arith, c.loop-turn-test.false))
