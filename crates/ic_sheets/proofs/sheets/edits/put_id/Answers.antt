use Rattle.std.proofs.Common.{Some, string_bytes}
use Rattle.std.proofs.lemmas.Map.Text.{btree_map_updates_text}
use Rattle.ic_sheets.proofs.sheets.edits.put_id.Goals as goal

pub returns-clause-ok : goal.returns-clause-ok
returns-clause-ok c = btree_map_updates_text (string_bytes c.args.key) c.args.ids.now c.insert.new.self (Some c.args.id) c.in_ok-insert.ensures.updates
