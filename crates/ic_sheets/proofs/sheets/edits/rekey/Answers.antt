use Rattle.std.proofs.Common.{◌∙◌, ap, sym, Some, None, string_bytes, bytes_eq}
use Rattle.std.proofs.lemmas.Map.Text.{btree_map_updates_text}
use Rattle.ic_sheets.proofs.IndexLemmas.{rekeyed, rewritten}
use Rattle.ic_sheets.proofs.sheets.edits.rekey.Goals as goal

pub returns-then-not-same-clause-ok : goal.returns-then-not-same-clause-ok
returns-then-not-same-clause-ok c =
    rekeyed c.args.ids.now c.insert.new.self c.remove.new.self c.args.old_key.now (string_bytes c.args.key) (Some c.args.id)
    (ap (λ x. bytes_eq x c.args.old_key.now) (sym c.as_str.ensures.value) ∙ sym c.eq-same.ensures ∙ c.if-not-same.true)
    (btree_map_updates_text (string_bytes c.args.key) c.args.ids.now c.insert.new.self (Some c.args.id) c.in_ok-insert.ensures.updates)
    (btree_map_updates_text c.args.old_key.now c.insert.new.self c.remove.new.self None c.remove.ensures.updates)

pub returns-else-not-same-clause-ok : goal.returns-else-not-same-clause-ok
returns-else-not-same-clause-ok c =
    rewritten c.args.ids.now c.insert.new.self c.args.old_key.now (string_bytes c.args.key) (Some c.args.id)
    (ap (λ x. bytes_eq x c.args.old_key.now) (sym c.as_str.ensures.value) ∙ sym c.eq-same.ensures ∙ c.if-not-same.false)
    (btree_map_updates_text (string_bytes c.args.key) c.args.ids.now c.insert.new.self (Some c.args.id) c.in_ok-insert.ensures.updates)
