use Rattle.std.proofs.Common.{◌≡◌, Some, drop, map}
use Rattle.ic_keep.specs.Alike.{values_of}
use Rattle.ic_keep.specs.Capture.{captured_beside, some_captured}
use Rattle.ic_keep.specs.Change.{change_of}
use Rattle.ic_keep.proofs.capture.+captured.Given as goal

-- what is left of both lists decides
abbrev pub invariant-is_some_captured-loop-tree : goal.invariant-is_some_captured-loop-tree
invariant-is_some_captured-loop-tree l =
    some_captured (map (captured_beside (change_of (Some l.change))) (drop l.tree-index l.trees)) l.others ≡ some_captured (map (captured_beside (change_of (Some l.change))) l.trees) l.kept

abbrev pub invariant-is_some_value_captured-loop-pair : goal.invariant-is_some_value_captured-loop-pair
invariant-is_some_value_captured-loop-pair l =
    some_captured (map (λ pair. captured_beside (change_of (Some l.change)) pair.value) (drop l.pair-index l.pairs)) (values_of l.others)
    ≡ some_captured (map (λ pair. captured_beside (change_of (Some l.change)) pair.value) l.pairs) (values_of l.kept)
