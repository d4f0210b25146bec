use Rattle.std.proofs.Common.{◌≤◌, ◌<◌, ◌∙◌, length, refl, rules, arith}
use Rattle.ic_laws.specs.CoreBook.{last_id}
use Rattle.ic_dump.proofs.CellLemmas.{all_seen, few_sheets, seen_more}
use Rattle.ic_dump.proofs.sheets.sheets_seen.Goals as goal

-- there are no more sheets than ids
pub overflow_cast-index : goal.overflow_cast-index
overflow_cast-index c =
    let few : length c.args.names.now ≤ last_id = few_sheets c.args.model.now.book c.args.names.now c.requires.valid c.requires.names in
    search (rules, arith)

pub loop-index-preserved : goal.loop-index-preserved
loop-index-preserved c =
    let names = c.args.names.now in
    let i = c.loop-index.index in
    let below : i < length names = search (rules, arith) in
    seen_more c.args.model.now.book names i c.index-names-index.result c.loop-index.sheets.items c.push.new.self.items _ c.requires.names below c.index-names-index.is refl c.in_ok-cells.ensures c.loop-index.invariant c.in_ok-push.ensures.items

pub returns : goal.returns
returns c = c.loop-index.invariant ∙ all_seen c.args.model.now.book c.args.names.now c.loop-index.index c.requires.names (search (rules, arith))
