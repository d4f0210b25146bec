use Rattle.std.proofs.Common.{◌≡◌, map, take}
use Rattle.std.specs.Prelude.{Some}
use Rattle.ic_keep.specs.Copy.{copied_for}
use Rattle.ic_tree.specs.LanguageWords.{function_of}
use Rattle.ic_changes.proofs.sheet_copies.filling.copied_bodies.Given as goal

-- those so far
abbrev pub invariant-loop-definition : goal.invariant-loop-definition
invariant-loop-definition g l = l.out.items ≡ map (λ d. copied_for (function_of l.english) (g.A.Finder.scene l.after) l.source l.copy (Some l.copy) d.body) (take l.definition-index l.definitions)
