-- What is made of a formula whose mentions are written out and bound again.
use Rattle.std.specs.Prelude.{ℕ, List, [], map, Option}
use Rattle.ic_laws.specs.Binding.{all_bound, bound, bound_under, spelled_with}
use Rattle.ic_laws.specs.Tree.{Bound}
use Rattle.ic_laws.specs.declared.scene.Scene.{Scene}
use Rattle.ic_laws.specs.declared.tree.NameKey.{NameKey}

module _ (english : List ℕ → Option ℕ) (scene : Scene) (sheet_text : ℕ → List ℕ) (key_text : NameKey → List ℕ) (scope : Option ℕ) where
  -- each sheet and each definition is written by its text, and what is written so is bound
  abbrev pub rebound : Bound → Bound
  rebound t = bound english scene scope (spelled_with sheet_text key_text t)

  -- each of these formulas so
  abbrev pub all_rebound : List Bound → List Bound
  all_rebound trees = all_bound (map (bound_under english scene scope) (map (spelled_with sheet_text key_text) trees)) []
