use Rattle.std.proofs.Common.{◌≡◌, false, map, take}
use Rattle.std.specs.List.{list_any}
use Rattle.ic_workbooks.specs.Referring.{some_outside}
use Rattle.ic_workbooks.proofs.referring.+some_outside.Given as goal

-- no reference before lies outside
abbrev pub invariant-one_outside-loop-tree : goal.invariant-one_outside-loop-tree
invariant-one_outside-loop-tree l = list_any (λ b. b) (map (some_outside l.at.0 l.at.1) (take l.tree-index l.trees)) ≡ false

abbrev pub invariant-one_value_outside-loop-pair : goal.invariant-one_value_outside-loop-pair
invariant-one_value_outside-loop-pair l = list_any (λ b. b) (map (λ pair. some_outside l.at.0 l.at.1 pair.value) (take l.pair-index l.pairs)) ≡ false
