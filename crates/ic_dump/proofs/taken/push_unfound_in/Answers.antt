use Rattle.std.proofs.Common.{◌<◌, ◌++◌, ◌∙◌, ap, length, map, rules, arith, sym}
use Rattle.std.proofs.lemmas.List.{take_all}
use Rattle.std.specs.Prelude.{flat_map}
use Rattle.ic_parts.specs.Lent.{placed}
use Rattle.ic_dump.specs.Passing.{unfound_of}
use Rattle.ic_dump.specs.Records.{core_seen}
use Rattle.ic_dump.proofs.CellLemmas.{made_more}
use Rattle.ic_dump.proofs.TakenLemmas.{unfound_at, unfound_each}
use Rattle.ic_dump.proofs.taken.push_unfound_in.Goals as goal

pub loop-sheet-preserved : goal.loop-sheet-preserved
loop-sheet-preserved c =
    let sheets = c.args.sheets.now in
    let i = c.loop-sheet.sheet-index in
    let names = map (λ name. name.now) c.loop-sheet.names.items in
    let below : i < length sheets = search (rules, arith) in
    made_more unfound_at core_seen sheets i c.sheet-item.result (map (λ name. name.now) c.args.names.now.items) names _ below c.sheet-item.is c.loop-sheet.invariant
    (c.in_ok-push_unfound_among.ensures ∙ ap (λ cells. names ++ flat_map unfound_of (map (λ cell. cell.1) (map placed cells))) c.as_slice.ensures.value)

pub returns : goal.returns
returns c =
    c.loop-sheet.invariant
    ∙ ap (λ sheets. map (λ name. name.now) c.args.names.now.items ++ flat_map unfound_at (map core_seen sheets)) (take_all c.loop-sheet.sheet-index c.args.sheets.now (search (rules, arith)))
    ∙ ap (λ rest. map (λ name. name.now) c.args.names.now.items ++ rest) (sym (unfound_each (map core_seen c.args.sheets.now)))
