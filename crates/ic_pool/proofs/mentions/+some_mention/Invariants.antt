use Rattle.std.proofs.Common.{◌≡◌, false, map, take}
use Rattle.std.specs.List.{list_any}
use Rattle.ic_laws.specs.Mentions.{some_mention}
use Rattle.ic_pool.proofs.mentions.+some_mention.Given as goal

-- no mention before passes
abbrev pub invariant-some_of_all-loop-tree : goal.invariant-some_of_all-loop-tree
invariant-some_of_all-loop-tree g l =
    list_any (λ b. b) (map (some_mention (g.T.MentionTest.is_sheet l.test) (g.T.MentionTest.is_word l.test) (g.T.MentionTest.is_local l.test)) (take l.tree-index l.trees)) ≡ false

abbrev pub invariant-some_of_values-loop-pair : goal.invariant-some_of_values-loop-pair
invariant-some_of_values-loop-pair g l =
    list_any (λ b. b) (map (λ pair. some_mention (g.T.MentionTest.is_sheet l.test) (g.T.MentionTest.is_word l.test) (g.T.MentionTest.is_local l.test) pair.value) (take l.pair-index l.pairs)) ≡ false
