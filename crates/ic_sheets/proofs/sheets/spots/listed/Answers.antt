use Rattle.ic_sheets.specs.Spots.{spots_from}
use Rattle.ic_sheets.proofs.IndexLemmas.{read_boxed}
use Rattle.ic_sheets.proofs.SortLemmas.{listed_end, listed_next}
use Rattle.ic_sheets.proofs.sheets.spots.listed.Goals as goal

pub loop-index-preserved : goal.loop-index-preserved
loop-index-preserved c =
    let sheets = c.args.sheets.now in
    listed_next sheets (spots_from 0 sheets) c.loop-index.list.items c.push.new.self.items c.loop-index.index c.as_ref.result.now c.loop-index-test.true (read_boxed sheets c.loop-index.index c.as_ref.ensures c.index-sheets-index.is) c.loop-index.invariant
    c.in_ok-push.ensures.items

pub returns : goal.returns
returns c =
    let sheets = c.args.sheets.now in listed_end sheets (spots_from 0 sheets) c.loop-index.list.items c.loop-index.index c.loop-index-test.false c.loop-index.invariant
