use Rattle.std.proofs.Common.{rules, ltb}
use Rattle.std.proofs.lemmas.Map.Made.{filter_same_pairs}
use Rattle.ic_cells.proofs.IndexLemmas.{indexed_take}
use Rattle.ic_cells.proofs.styles.Styles.truncate.Goals as goal

pub invariant_of-self : goal.invariant_of-self
invariant_of-self c =
    let left = filter_same_pairs _ (λ p. ltb p.1 c.args.len) _ (λ k v b w f' t. search rules) _ _ c.retain.ensures.filtered in
    indexed_take c.self.inside.index c.retain.new.self c.self.inside.list.items c.truncate.new.self.items c.args.len c.self.invariant c.requires
    c.retain.ensures.was_ordered left c.truncate.ensures.items
