use Rattle.std.proofs.Common.{◌≡◌, ◌++◌, drop}
use Rattle.ic_pool.specs.Code.{pair_code, tree_code}
use Rattle.ic_pool.specs.Bytes.{joined, all_bytes}
use Rattle.ic_pool.proofs.code.tree.+writing.Given as goal

-- what is written and what is left to write
abbrev pub invariant-write_each-loop-tree : goal.invariant-write_each-loop-tree
invariant-write_each-loop-tree l = l.key ++ joined tree_code (drop l.tree-index l.trees) ≡ l.fn.key ++ joined tree_code l.trees

abbrev pub invariant-write_pairs-loop-pair : goal.invariant-write_pairs-loop-pair
invariant-write_pairs-loop-pair l =
    l.key ++ joined pair_code (drop l.pair-index l.pairs) ≡ l.fn.key ++ all_bytes pair_code l.pairs
