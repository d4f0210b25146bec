use Rattle.std.proofs.Common.{◌≡◌, drop, map}
use Rattle.std.specs.List.{list_any}
use Rattle.ic_changes.specs.Copied.{mentions_in}
use Rattle.ic_changes.proofs.sheet_copies.mentions.+mentions_in.Given as goal

-- what is left decides
abbrev pub invariant-some_mention-loop-tree : goal.invariant-some_mention-loop-tree
invariant-some_mention-loop-tree l = list_any (λ b. b) (map (mentions_in l.id) (drop l.tree-index l.trees)) ≡ list_any (λ b. b) (map (mentions_in l.id) l.trees)

abbrev pub invariant-some_value_mentions-loop-pair : goal.invariant-some_value_mentions-loop-pair
invariant-some_value_mentions-loop-pair l =
    list_any (λ b. b) (map (λ pair. mentions_in l.id pair.value) (drop l.pair-index l.pairs)) ≡ list_any (λ b. b) (map (λ pair. mentions_in l.id pair.value) l.pairs)
