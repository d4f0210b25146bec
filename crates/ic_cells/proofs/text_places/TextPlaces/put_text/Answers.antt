use Rattle.std.proofs.Common.{◌∙◌, Some, ap, bytes_eq, cond, refl, string_bytes}
use Rattle.std.proofs.lemmas.Map.Text.{btree_map_updates_text}
use Rattle.std.specs.BTreeMap.{get_by_text}
use Rattle.ic_cells.proofs.text_places.TextPlaces.put_text.Goals as goal

pub returns-clause-ok : goal.returns-clause-ok
returns-clause-ok c = record {
  by_hash = λ hash. refl;
  by_text = λ q.
      btree_map_updates_text (string_bytes c.in_ok-key.key) c.args.self.now.by_text c.insert.new.self (Some c.args.at) c.in_ok-insert.ensures.updates q
      ∙ ap (λ k. cond (bytes_eq k q) (Some c.args.at) (get_by_text c.args.self.now.by_text q)) c.in_ok-key.ensures.ok;
}
