-- What is kept of a formula is alike it: written out and bound again, it has the same form.
use Rattle.std.proofs.Common.{◌≡◌, ℕ, List, [], ◌∷◌, ◌++◌, map, true, Option, None, Some, refl, ap, ◌∙◌}
use Rattle.std.specs.List.{AllByRecursion}
use Rattle.std.proofs.lemmas.Bool.{and_from}
use Rattle.ic_laws.proofs.binding.Again.{BoundKind, bound-node, bound_node, children_spelled, once, pair_spelled, spell, spelled-node, under}
use Rattle.ic_laws.proofs.binding.Induction.{OfChildren, by_nodes}
use Rattle.ic_laws.specs.Binding.{Binders, BoundPair, all_bound, bound_call, pair_binds, pairs_bound, spelled_kind, spelled_word, with_parameters, with_variables}
use Rattle.ic_laws.specs.Keeping.{KeyChange, kept, kept_formula, kept_name, kept_sheet}
use Rattle.ic_laws.specs.Tree.{Bound, Spelled}
use Rattle.ic_laws.specs.declared.scene.Scene.{Scene}
use Rattle.ic_laws.specs.declared.tree.Formula.{Formula}
use Rattle.ic_laws.specs.declared.tree.Formula.TheVariants as formulas
use Rattle.ic_laws.specs.declared.tree.NameKey.{NameKey}
use Rattle.ic_laws.specs.declared.tree.NameMention.{NameMention}
use Rattle.ic_laws.specs.declared.tree.SheetMention.{SheetMention}
use Rattle.ic_laws.specs.declared.tree.Tree.{out-roll-Tree}
use Rattle.ic_laws.specs.declared.tree.Tree.TheOpen as one
use Rattle.ic_keep.proofs.WordWalk.{children_alike, tested-node}
use Rattle.ic_keep.specs.Alike.{AreAlike, AreAlikeFormulas, alike, alike_step, all_alike, kinds_alike, values_of}

module _ (english : List ℕ → Option ℕ) (scene : Scene) (scope : Option ℕ) (sheet_text : ℕ → List ℕ) (key_text : NameKey → List ℕ) where
  abbrev written : Bound → Spelled
  written = spell sheet_text key_text

  abbrev again : Bound → Binders → Bound
  again t binders = under english scene scope (written t) binders

  -- whichever variables are seen
  abbrev Stays : Bound → Type 0
  Stays t = (binders : Binders) → alike t (again t binders) ≡ true

  abbrev PairStays : BoundPair → Type 0
  PairStays pair = Stays pair.value

  all_stay : (ts : List Bound) (binders : Binders) → AllByRecursion Stays ts → all_alike (map alike ts) (all_bound (map (under english scene scope) (map written ts)) binders) ≡ true
  all_stay [] binders h = refl
  all_stay (t ∷ ts) binders h = and_from _ _ (h.0 binders) (all_stay ts binders h.1)

  values_stay : (ps : List BoundPair) (binders : Binders) → AllByRecursion PairStays ps
      → all_alike (map (λ (p : BoundPair). alike p.value) ps) (values_of (pairs_bound (map (pair_binds english scene scope) (map (pair_spelled sheet_text key_text) ps)) binders)) ≡ true
  values_stay [] binders h = refl
  values_stay (p ∷ ps) binders h = and_from _ _ (h.0 binders) (values_stay ps (binders ++ p.variable ∷ []) h.1)

  abbrev kind_again : BoundKind → Binders → BoundKind
  kind_again kind binders = once english scene scope (spelled_kind sheet_text key_text (children_spelled sheet_text key_text kind)) binders

  level : (kind : BoundKind) (binders : Binders) → OfChildren Stays PairStays kind → kinds_alike (children_alike kind) (kind_again kind binders) ≡ true
  level (one.Paren x) binders h = and_from _ _ (h binders) refl
  level (one.Prefix sign x) binders h = and_from _ _ (h binders) refl
  level (one.Percent x) binders h = and_from _ _ (h binders) refl
  level (one.Spill x) binders h = and_from _ _ (h binders) refl
  level (one.Binary sign a b) binders h = and_from _ _ (h.0 binders) (h.1 binders)
  level (one.Fun number arguments) binders h = and_from _ _ (all_stay arguments binders h) refl
  level (one.Call word arguments) binders h = go (english (spelled_word key_text word))
    where
      go : (found : Option ℕ)
          → kinds_alike (children_alike (one.Call word arguments)) (bound_call english scene scope found (spelled_word key_text word) (map (under english scene scope) (map written arguments)) binders) ≡ true
      go (Some number) = and_from _ _ (all_stay arguments binders h) refl
      go None = and_from _ _ (all_stay arguments binders h) refl
  level (one.Let pairs body) binders h =
      and_from _ _ (values_stay pairs binders h.0) (h.1 (with_variables (map (pair_binds english scene scope) (map (pair_spelled sheet_text key_text) pairs)) binders))
  level (one.Lambda parameters body) binders h = h (with_parameters parameters binders)
  level (one.Apply x arguments) binders h = and_from _ _ (h.0 binders) (and_from _ _ (all_stay arguments binders h.1) refl)
  level kind binders h = refl

  node_stays : (kind : BoundKind) → OfChildren Stays PairStays kind → Stays (bound_node kind)
  node_stays kind h binders =
      let is : again (bound_node kind) binders ≡ bound_node (kind_again kind binders) =
      ap (λ s. under english scene scope s binders) (spelled-node sheet_text key_text kind) ∙ bound-node english scene scope (spelled_kind sheet_text key_text (children_spelled sheet_text key_text kind)) binders in
      ap (alike (bound_node kind)) is
      ∙ (tested-node alike_step kind (bound_node (kind_again kind binders))
      ∙ (ap (kinds_alike (children_alike kind)) (out-roll-Tree SheetMention NameMention (kind_again kind binders)) ∙ level kind binders h))

  pub stays_alike : (t : Bound) (binders : Binders) → AreAlike t (again t binders)
  stays_alike = by_nodes Stays PairStays node_stays (λ variable value h. h)

-- so is what is kept of a tree, and of a formula
pub kept_is_alike : (english : List ℕ → Option ℕ) (before after : Scene) (change : KeyChange) (scope : Option ℕ) (t : Bound) → AreAlike t (kept english before after change scope t)
kept_is_alike english before after change scope t = stays_alike english after scope (kept_sheet before after) (kept_name before after change) t []

pub kept_formula_is_alike : (english : List ℕ → Option ℕ) (before after : Scene) (change : KeyChange) (scope : Option ℕ) (f : Formula) → AreAlikeFormulas f (kept_formula english before after change scope f)
kept_formula_is_alike english before after change scope (formulas.Tree t) = kept_is_alike english before after change scope t
kept_formula_is_alike english before after change scope (formulas.Raw text) = tt
