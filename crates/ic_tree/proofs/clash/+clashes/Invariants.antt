use Rattle.std.proofs.Common.{◌≡◌, ◌||◌, false, map, take}
use Rattle.ic_laws.specs.Clash.{clashes_with, one_clashes}
use Rattle.ic_tree.specs.LanguageWords.{is_boolean_word, is_function_word}
use Rattle.ic_tree.proofs.clash.+clashes.Given as goal

-- none before clashes
abbrev pub invariant-one_clashes-loop-tree : goal.invariant-one_clashes-loop-tree
invariant-one_clashes-loop-tree l = one_clashes (map (clashes_with (is_boolean_word l.language) (is_function_word l.language)) (take l.tree-index l.trees)) ≡ false

abbrev pub invariant-one_pair_clashes-loop-pair : goal.invariant-one_pair_clashes-loop-pair
invariant-one_pair_clashes-loop-pair l =
    one_clashes (map (λ pair. is_boolean_word l.language pair.variable || clashes_with (is_boolean_word l.language) (is_function_word l.language) pair.value) (take l.pair-index l.pairs)) ≡ false
