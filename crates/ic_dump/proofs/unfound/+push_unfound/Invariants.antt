use Rattle.std.proofs.Common.{◌≡◌, ◌++◌, flat_map, map, take}
use Rattle.ic_dump.specs.Passing.{unfound_in}
use Rattle.ic_dump.proofs.unfound.+push_unfound.Given as goal

-- those so far
abbrev pub invariant-push_all-loop-tree : goal.invariant-push_all-loop-tree
invariant-push_all-loop-tree l = map (λ name. name.now) l.names.items ≡ map (λ name. name.now) l.initial.names.items ++ flat_map (λ ns. ns) (map unfound_in (take l.tree-index l.trees))

abbrev pub invariant-push_values-loop-pair : goal.invariant-push_values-loop-pair
invariant-push_values-loop-pair l = map (λ name. name.now) l.names.items ≡ map (λ name. name.now) l.initial.names.items ++ flat_map (λ ns. ns) (map (λ pair. unfound_in pair.value) (take l.pair-index l.pairs))
