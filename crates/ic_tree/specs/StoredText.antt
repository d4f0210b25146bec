-- The text that stands for a formula where formulas are kept as texts.
use Rattle.std.specs.Prelude.{ℕ, List, ◌++◌, codes}
use Rattle.ic_laws.specs.Binding.{spelled}
use Rattle.ic_laws.specs.Notations.{Notations}
use Rattle.ic_laws.specs.Reading.{printed}
use Rattle.ic_laws.specs.declared.scene.Scene.{Scene}
use Rattle.ic_laws.specs.declared.tree.Formula.{Formula}
use Rattle.ic_laws.specs.declared.tree.Formula.TheVariants as formulas

-- a tree stands as it is spelled in the stored form, a text that didn't read as it was typed, after a closing bracket
abbrev pub stored_formula : Notations → Scene → Formula → List ℕ
stored_formula n scene (formulas.Tree t) = printed n.stored (spelled scene t)
stored_formula n scene (formulas.Raw text) = codes ")" ++ text
