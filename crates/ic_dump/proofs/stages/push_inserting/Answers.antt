use Rattle.std.proofs.Common.{◌<◌, length, rules, arith}
use Rattle.ic_dump.proofs.StageLemmas.{inserting_next}
use Rattle.ic_dump.proofs.stages.push_inserting.Goals as goal

pub loop-index-preserved : goal.loop-index-preserved
loop-index-preserved c =
    let sheets = c.args.sheets.now in
    let i = c.loop-index.index in
    let below : i < length sheets = search (rules, arith) in
    inserting_next sheets i c.index-sheets-index.result c.loop-index.lines.items c.push_if_other.new.lines.items _ below c.index-sheets-index.is c.loop-index.invariant c.in_ok-push_if_other.ensures
