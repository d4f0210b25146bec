use Rattle.std.proofs.Common.{◌∙◌, sym, ap, take, get_or, pos, arith}
use Rattle.std.proofs.lemmas.Option.{slice_get-get_or}
use Rattle.ic_cells.specs.declared.layout.Merge.{Merge}
use Rattle.ic_grid.proofs.HandedInLemmas.{apart_begun, apart_done, apart_failed, apart_more}
use Rattle.ic_grid.specs.Merges.{meets_merge}
use Rattle.ic_grid.proofs.handed_in.are_apart.Goals as goal

-- what stands past the end
abbrev none : Merge
none = record { row = pos 0; column = pos 0; width = pos 0; height = pos 0 }

pub loop-index-init : goal.loop-index-init
loop-index-init c = apart_begun c.args.merges.now

pub returns-then-meets_merge : goal.returns-then-meets_merge
returns-then-meets_merge c =
    apart_failed c.args.merges.now c.loop-index.index (get_or c.args.merges.now c.loop-index.index none) (slice_get-get_or c.args.merges.now c.loop-index.index none c.loop-index-test.true)
    (ap (meets_merge (take c.loop-index.index c.args.merges.now)) (sym c.merged_block.ensures) ∙ sym c.meets_merge.ensures ∙ c.if-meets_merge.true)

pub loop-index-preserved : goal.loop-index-preserved
loop-index-preserved c =
    apart_more c.args.merges.now c.loop-index.index (get_or c.args.merges.now c.loop-index.index none) (slice_get-get_or c.args.merges.now c.loop-index.index none c.loop-index-test.true) c.loop-index.invariant
    (ap (meets_merge (take c.loop-index.index c.args.merges.now)) (sym c.merged_block.ensures) ∙ sym c.meets_merge.ensures ∙ c.if-meets_merge.false)

pub returns : goal.returns
returns c = apart_done c.args.merges.now c.loop-index.index (omega (arith, c.loop-index-test.false)) c.loop-index.invariant
