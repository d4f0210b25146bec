use Rattle.std.proofs.Common.{rules, ltb}
use Rattle.std.proofs.lemmas.Map.Made.{filter_same_pairs}
use Rattle.ic_cells.proofs.TextLemmas.{left_by_hash, left_by_text}
use Rattle.ic_cells.proofs.text_places.TextPlaces.truncate.Goals as goal

pub returns : goal.returns
returns c = record {
  by_hash = left_by_hash c.args.self.now.by_hash c.retain.new.self c.args.len c.retain.ensures.was_ordered
      (filter_same_pairs _ (λ p. ltb p.1 c.args.len) _ (λ k v b w f' t. search rules) _ _ c.retain.ensures.filtered);
  by_text = left_by_text c.args.self.now.by_text c.retain-2.new.self c.args.len c.retain-2.ensures.was_ordered
      (filter_same_pairs _ (λ p. ltb p.1 c.args.len) _ (λ k v b w f' t. search rules) _ _ c.retain-2.ensures.filtered);
}
