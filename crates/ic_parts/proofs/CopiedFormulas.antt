-- The formulas and the bodies of a book over a change that is told for all sheets but one.
use Rattle.std.proofs.Common.{◌≡◌, ℕ, List, [], ◌∷◌, map, false, Option, Some, refl, ap, ap₂}
use Rattle.std.specs.List.{AllByRecursion}
use Rattle.std.specs.Prelude.{nat_eq}
use Rattle.ic_laws.proofs.keeping.Kept.{Become, kept_becomes}
use Rattle.ic_laws.proofs.kept.Kept.{english_by_fold}
use Rattle.ic_laws.specs.Binding.{IsSettled}
use Rattle.ic_laws.specs.BookTrees.{OfBody, OfTree, with_body_tree, with_tree}
use Rattle.ic_laws.specs.Changes.{Change, changed_local, changed_sheet, changed_tree, changed_word}
use Rattle.ic_laws.specs.CoreBook.{Definition}
use Rattle.ic_laws.specs.Keeping.{kept_formula, kept_in_body, same_keys}
use Rattle.ic_laws.specs.Notations.{AreNotations, Notations, english_function}
use Rattle.ic_laws.specs.Scene.{same_scope}
use Rattle.ic_laws.specs.Tree.{Bound}
use Rattle.ic_laws.specs.ValidCore.{IsPooled}
use Rattle.ic_laws.specs.declared.scene.Scene.{Scene}
use Rattle.ic_laws.specs.declared.tree.Formula.{Formula}
use Rattle.ic_laws.specs.declared.tree.Formula.TheVariants as formulas
use Rattle.ic_sheets.specs.Rewriting.{changed_pool}
use Rattle.ic_sheets.specs.Sheet.{IsValidPool, Sheet, kept_pool}

module _ (n : Notations) (are : AreNotations n) (before after : Scene) (change : Change) (id : ℕ)
    (become : (scope : Option ℕ) → same_scope (Some id) scope ≡ false → Become before after scope (changed_sheet change) (changed_word change scope) (changed_local change)) where
  settled_changed : (scope : Option ℕ) → same_scope (Some id) scope ≡ false → (formula : Formula) → OfTree (IsSettled (english_function n) before scope) formula
      → kept_formula (english_function n) before after same_keys scope formula ≡ with_tree (changed_tree change scope) formula
  settled_changed scope apart (formulas.Tree t) h =
      ap (λ (u : Bound). let g : Formula = formulas.Tree u in g)
      (kept_becomes (english_function n) before after scope (changed_sheet change) (changed_word change scope) (changed_local change) (become scope apart) (english_by_fold n are) t h)
  settled_changed scope apart (formulas.Raw text) h = refl

  of_pooled : (scope : Option ℕ) (formula : Formula) → IsPooled n before scope formula → OfTree (IsSettled (english_function n) before scope) formula
  of_pooled scope (formulas.Tree t) h = h.settled
  of_pooled scope (formulas.Raw text) h = tt

  pool_changed : (scope : Option ℕ) → same_scope (Some id) scope ≡ false → (pool : List Formula) → AllByRecursion (IsPooled n before scope) pool
      → map (kept_formula (english_function n) before after same_keys scope) pool ≡ map (with_tree (changed_tree change scope)) pool
  pool_changed scope apart [] h = refl
  pool_changed scope apart (x ∷ pool) h = ap₂ ◌∷◌ (settled_changed scope apart x (of_pooled scope x h.0)) (pool_changed scope apart pool h.1)

  -- the pools of sheets with other ids
  pub others_changed : (sheets : List Sheet) → AllByRecursion (IsValidPool n before) sheets → AllByRecursion (λ (s : Sheet). nat_eq id s.id ≡ false) sheets → map (kept_pool n before after) sheets ≡ map (changed_pool change) sheets
  others_changed [] h apart = refl
  others_changed (s ∷ sheets) h apart =
      ap₂ ◌∷◌ (ap (λ pool. let one : Sheet = record s { pool = pool } in one) (pool_changed (Some s.id) apart.0 s.pool h.0.formulas)) (others_changed sheets h.1 apart.1)

  -- the bodies of definitions of other scopes
  pub bodies_changed : (ds : List Definition) → AllByRecursion (OfBody (IsSettled (english_function n) before)) ds → AllByRecursion (λ (d : Definition). same_scope (Some id) d.scope ≡ false) ds
      → map (kept_in_body n before after same_keys) ds ≡ map (with_body_tree (changed_tree change)) ds
  bodies_changed [] h apart = refl
  bodies_changed (d ∷ ds) h apart =
      ap₂ ◌∷◌ (ap (λ body. let one : Definition = record d { body = body } in one) (settled_changed d.scope apart.0 d.body h.0)) (bodies_changed ds h.1 apart.1)
