use Rattle.std.proofs.Common.{◌≡◌, Some, drop, map}
use Rattle.ic_keep.specs.Capture.{captured_beside, some_captured}
use Rattle.ic_keep.specs.Change.{change_of}
use Rattle.ic_keep.specs.Rebound.{all_rebound}
use Rattle.ic_tree.specs.LanguageWords.{function_of}
use Rattle.ic_keep.proofs.capturing.+would_capture.Given as goal

-- what is left decides
abbrev pub invariant-is_some_captured_again-loop-tree : goal.invariant-is_some_captured_again-loop-tree
invariant-is_some_captured_again-loop-tree g l =
    some_captured (map (captured_beside (change_of (Some l.change))) (drop l.tree-index l.trees))
    (all_rebound (function_of l.english) (g.N.Finder.scene l.names) (g.R.Renaming.sheet_text l.renaming) (g.R.Renaming.key_text l.renaming) l.scope (drop l.tree-index l.trees))
    ≡ some_captured (map (captured_beside (change_of (Some l.change))) l.trees)
    (all_rebound (function_of l.english) (g.N.Finder.scene l.names) (g.R.Renaming.sheet_text l.renaming) (g.R.Renaming.key_text l.renaming) l.scope l.trees)
