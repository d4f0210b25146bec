use Rattle.std.proofs.Common.{◌∙◌, None, encode_utf8_all, chars}
use Rattle.std.proofs.lemmas.Map.Text.{btree_map_updates_text}
use Rattle.ic_sheets.proofs.KeyLemmas.{name_lost}
use Rattle.ic_sheets.proofs.sheets.edits.take_key.Goals as goal

pub returns-in-Ok : goal.returns-in-Ok
returns-in-Ok c =
    name_lost c.args.ids.now c.remove.new.self (chars c.args.name.now) c.as_str.result.now (c.as_str.ensures.value ∙ c.in-Ok.ensures)
    (btree_map_updates_text c.as_str.result.now c.args.ids.now c.remove.new.self None c.remove.ensures.updates)

pub returns-in-Err : goal.returns-in-Err
returns-in-Err c = λ q. c.take_id.ensures (encode_utf8_all q) ∙ c.requires q
