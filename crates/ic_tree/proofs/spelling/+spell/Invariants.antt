use Rattle.std.proofs.Common.{◌≡◌, take, map}
use Rattle.ic_laws.proofs.binding.Again.{pair_spelled}
use Rattle.ic_laws.specs.Binding.{spelled_with}
use Rattle.ic_tree.proofs.spelling.+spell.Given as goal

abbrev pub invariant-spell_all-loop-tree : goal.invariant-spell_all-loop-tree
invariant-spell_all-loop-tree g l =
    l.out.items ≡ map (spelled_with (g.S.Spelling.sheet_text l.spelling) (g.S.Spelling.key_text l.spelling)) (take l.tree-index l.trees)

abbrev pub invariant-spell_pairs-loop-pair : goal.invariant-spell_pairs-loop-pair
invariant-spell_pairs-loop-pair g l =
    l.out.items ≡ map (pair_spelled (g.S.Spelling.sheet_text l.spelling) (g.S.Spelling.key_text l.spelling)) (take l.pair-index l.pairs)
