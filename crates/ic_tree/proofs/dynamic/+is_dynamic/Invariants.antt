use Rattle.std.proofs.Common.{◌≡◌, false, map, take}
use Rattle.ic_tree.specs.Dynamic.{dynamic_with, one_dynamic}
use Rattle.ic_tree.proofs.dynamic.+is_dynamic.Given as goal

-- none before is dynamic
abbrev pub invariant-one_dynamic-loop-tree : goal.invariant-one_dynamic-loop-tree
invariant-one_dynamic-loop-tree l = one_dynamic (map (dynamic_with l.tables.kinds) (take l.tree-index l.trees)) ≡ false

abbrev pub invariant-one_value_dynamic-loop-pair : goal.invariant-one_value_dynamic-loop-pair
invariant-one_value_dynamic-loop-pair l = one_dynamic (map (λ pair. dynamic_with l.tables.kinds pair.value) (take l.pair-index l.pairs)) ≡ false
