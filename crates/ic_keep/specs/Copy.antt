-- What becomes of a formula when the sheet that it stands on is copied.
use Rattle.std.specs.Prelude.{ℕ, List, Option, Some, nat_eq, if◌then◌else◌}
use Rattle.ic_laws.specs.Binding.{bound, spelled_with}
use Rattle.ic_laws.specs.Notations.{Notations, english_function}
use Rattle.ic_laws.specs.Scene.{definition_spelling, sheet_spelling}
use Rattle.ic_laws.specs.Tree.{Bound}
use Rattle.ic_laws.specs.declared.scene.Scene.{Scene}
use Rattle.ic_laws.specs.declared.tree.Formula.{Formula}
use Rattle.ic_laws.specs.declared.tree.Formula.TheVariants as formulas

-- how a sheet is written in a copied formula: the source by the name of its copy
abbrev pub copy_spelling : Scene → ℕ → ℕ → ℕ → List ℕ
copy_spelling after source copy id = sheet_spelling after (if nat_eq id source then copy else id)

-- a copied tree: written so, and bound in the book with the copy, for the sheet with this id, or for none
abbrev pub copied : (List ℕ → Option ℕ) → Scene → ℕ → ℕ → Option ℕ → Bound → Bound
copied english after source copy scope t = bound english after scope (spelled_with (copy_spelling after source copy) (definition_spelling after) t)

-- the same of a formula; a text that didn't read stays as it is
abbrev pub copied_for : (List ℕ → Option ℕ) → Scene → ℕ → ℕ → Option ℕ → Formula → Formula
copied_for english after source copy scope (formulas.Tree t) = formulas.Tree (copied english after source copy scope t)
copied_for english after source copy scope (formulas.Raw text) = formulas.Raw text

-- a copied formula, for the copy
abbrev pub copied_formula : Notations → Scene → ℕ → ℕ → Formula → Formula
copied_formula n after source copy formula = copied_for (english_function n) after source copy (Some copy) formula
