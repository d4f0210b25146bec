use Rattle.std.proofs.Common.{◌<◌, ◌++◌, ◌∙◌, ap, length, sym, rules, arith}
use Rattle.ic_dump.proofs.StageLemmas.{done_of, naming_each, naming_of, next_of}
use Rattle.ic_dump.proofs.stages.push_naming.Goals as goal

pub loop-sheet-preserved : goal.loop-sheet-preserved
loop-sheet-preserved c =
    let below : c.loop-sheet.sheet-index < length c.args.sheets.now = search (rules, arith) in
    next_of naming_of c.args.sheets.now c.loop-sheet.sheet-index c.sheet-item.result c.loop-sheet.lines.items c.push_if_first.new.lines.items _ below c.sheet-item.is c.loop-sheet.invariant c.in_ok-push_if_first.ensures

pub returns : goal.returns
returns c =
    done_of naming_of c.args.sheets.now c.loop-sheet.sheet-index c.loop-sheet.lines.items _ (search (rules, arith)) c.loop-sheet.invariant
    ∙ ap (λ all. c.args.lines.now.items ++ all) (sym (naming_each c.args.sheets.now))
