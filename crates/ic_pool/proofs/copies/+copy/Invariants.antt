use Rattle.std.proofs.Common.{◌≡◌, take, map}
use Rattle.ic_laws.proofs.binding.Again.{pair_mapped}
use Rattle.ic_laws.specs.Mentions.{mapped}
use Rattle.ic_pool.proofs.copies.+copy.Given as goal

abbrev pub invariant-copy_all-loop-tree : goal.invariant-copy_all-loop-tree
invariant-copy_all-loop-tree g l =
    l.out.items ≡ map (mapped (g.C.MentionChange.sheet_becomes l.change) (g.C.MentionChange.word_becomes l.change) (g.C.MentionChange.local_becomes l.change)) (take l.tree-index l.trees)

abbrev pub invariant-copy_pairs-loop-pair : goal.invariant-copy_pairs-loop-pair
invariant-copy_pairs-loop-pair g l =
    l.out.items ≡ map (pair_mapped (g.C.MentionChange.sheet_becomes l.change) (g.C.MentionChange.word_becomes l.change) (g.C.MentionChange.local_becomes l.change)) (take l.pair-index l.pairs)
