use Rattle.std.proofs.Common.{◌≡◌, ◌∙◌, ◌++◌, ◌∷◌, List, [], Some, ap, encode_utf8_all, string_bytes}
use Rattle.ic_laws.specs.Name.{fold}
use Rattle.ic_cells.specs.declared.sheet.Worksheet.{Worksheet}
use Rattle.ic_sheets.proofs.IndexLemmas.{IsIndexed-add, IsIndexed-empty, put_by_name}
use Rattle.ic_sheets.proofs.KeptLemmas.{free_is_none}
use Rattle.ic_sheets.proofs.RecordLemmas.{name_free, started_next}
use Rattle.ic_sheets.specs.Records.{started}
use Rattle.ic_sheets.specs.declared.sheet.Sheet.{Sheet}
use Rattle.ic_sheets.proofs.sheets.started.all_started.Goals as goal

pub loop-worksheet-init : goal.loop-worksheet-init
loop-worksheet-init c = (c.new-list.ensures.items, IsIndexed-empty c.new-ids.result c.new-list.result.items c.new-ids.ensures.empty c.new-list.ensures.items)

pub loop-worksheet-preserved : goal.loop-worksheet-preserved
loop-worksheet-preserved c =
    let ws = c.args.worksheets.now in
    let i = c.loop-worksheet.worksheet-index in
    let w : Worksheet = c.worksheet-item.result in
    let sheets : List Sheet = c.loop-worksheet.list.items in
    let made = c.loop-worksheet.invariant.0 in
    let within = c.loop-worksheet-test.true in
    let item = c.worksheet-item.is in
    let pushed : c.push.new.self.items ≡ sheets ++ started w ∷ [] = c.in_ok-push.ensures.items ∙ ap (λ (s : Sheet). sheets ++ s ∷ []) c.in_ok-sheet.ensures in
    let key : string_bytes c.in_ok-key.key ≡ encode_utf8_all (fold w.name) = c.in_ok-key.ensures ∙ ap (λ n. encode_utf8_all (fold n)) c.as_str.ensures.characters in (
      started_next ws i w within item sheets made c.push.new.self.items pushed,
      IsIndexed-add c.loop-worksheet.ids c.put_id.new.ids sheets c.push.new.self.items (started w) c.loop-worksheet.invariant.1 (free_is_none w.name sheets (name_free ws i w within item sheets made c.requires))
          (put_by_name c.loop-worksheet.ids c.put_id.new.ids (string_bytes c.in_ok-key.key) (fold w.name) (Some w.sheet_id) c.in_ok-put_id.ensures.ok key) pushed,
    )
