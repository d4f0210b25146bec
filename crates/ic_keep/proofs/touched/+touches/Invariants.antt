use Rattle.std.proofs.Common.{◌≡◌, drop, map}
use Rattle.std.specs.List.{list_any}
use Rattle.ic_keep.specs.Touched.{touches}
use Rattle.ic_keep.proofs.touched.+touches.Given as goal

-- what is left decides
abbrev pub invariant-touches_some-loop-tree : goal.invariant-touches_some-loop-tree
invariant-touches_some-loop-tree l =
    list_any (λ b. b) (map (touches l.change.old l.change.new) (drop l.tree-index l.trees)) ≡ list_any (λ b. b) (map (touches l.change.old l.change.new) l.trees)

abbrev pub invariant-touches_some_value-loop-pair : goal.invariant-touches_some_value-loop-pair
invariant-touches_some_value-loop-pair l =
    list_any (λ b. b) (map (λ pair. touches l.change.old l.change.new pair.value) (drop l.pair-index l.pairs))
    ≡ list_any (λ b. b) (map (λ pair. touches l.change.old l.change.new pair.value) l.pairs)
