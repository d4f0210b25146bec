use Rattle.std.proofs.Common.{◌≡◌, ◌++◌, drop, map}
use Rattle.std.specs.Prelude.{flat_map}
use Rattle.ic_pool.specs.Topics.{tree_topics}
use Rattle.ic_pool.proofs.topics.+push_topics.Given as goal

-- what is put, and what is left to put
abbrev pub invariant-push_of_all-loop-tree : goal.invariant-push_of_all-loop-tree
invariant-push_of_all-loop-tree l =
    l.topics.items ++ flat_map (λ ts. ts) (map tree_topics (drop l.tree-index l.trees)) ≡ l.fn.topics.items ++ flat_map (λ ts. ts) (map tree_topics l.trees)

abbrev pub invariant-push_of_values-loop-pair : goal.invariant-push_of_values-loop-pair
invariant-push_of_values-loop-pair l =
    l.topics.items ++ flat_map (λ ts. ts) (map (λ pair. tree_topics pair.value) (drop l.pair-index l.pairs)) ≡ l.fn.topics.items ++ flat_map (λ ts. ts) (map (λ pair. tree_topics pair.value) l.pairs)
