use Rattle.std.proofs.Common.{◌≡◌, map, take}
use Rattle.std.specs.Prelude.{Some}
use Rattle.ic_keep.specs.Copy.{copied_for}
use Rattle.ic_tree.specs.LanguageWords.{function_of}
use Rattle.ic_changes.proofs.sheet_copies.filling.copied_formulas.Given as goal

-- those so far
abbrev pub invariant-loop-index : goal.invariant-loop-index
invariant-loop-index g l = l.out.items ≡ map (copied_for (function_of l.english) (g.A.Finder.scene l.after) l.source.id l.copy (Some l.copy)) (take l.index l.source.pool.formulas)
