use Rattle.std.proofs.Common.{◌≡◌, take}
use Rattle.ic_keep.specs.Rebound.{all_rebound}
use Rattle.ic_tree.specs.LanguageWords.{function_of}
use Rattle.ic_keep.proofs.rebinding.+rebind.Given as goal

abbrev pub invariant-rebind_all-loop-tree : goal.invariant-rebind_all-loop-tree
invariant-rebind_all-loop-tree g l =
    l.out.items
    ≡ all_rebound (function_of l.english) (g.N.Finder.scene l.names) (g.R.Renaming.sheet_text l.renaming) (g.R.Renaming.key_text l.renaming) l.scope (take l.tree-index l.trees)
