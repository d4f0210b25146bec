use Rattle.std.proofs.Common.{drop, map}
use Rattle.std.specs.Prelude.{flat_map}
use Rattle.ic_pool.specs.Topics.{tree_topics}
use Rattle.ic_definitions.proofs.MentionedBodies.{PutSoFar}
use Rattle.ic_definitions.proofs.mentioned.+put_of_tree.Given as goal

-- what is put, and what is left to put
abbrev pub invariant-put_of_all-loop-tree : goal.invariant-put_of_all-loop-tree
invariant-put_of_all-loop-tree l =
    PutSoFar l.fn.topics l.topics (flat_map (λ ts. ts) (map tree_topics l.trees)) (flat_map (λ ts. ts) (map tree_topics (drop l.tree-index l.trees)))

abbrev pub invariant-put_of_values-loop-pair : goal.invariant-put_of_values-loop-pair
invariant-put_of_values-loop-pair l =
    PutSoFar l.fn.topics l.topics (flat_map (λ ts. ts) (map (λ pair. tree_topics pair.value) l.pairs)) (flat_map (λ ts. ts) (map (λ pair. tree_topics pair.value) (drop l.pair-index l.pairs)))
