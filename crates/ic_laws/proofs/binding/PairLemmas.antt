-- The pairs of LET, one more at the end.
use Rattle.std.proofs.Common.{ℕ, ◌+◌, ◌<◌, length, take, get_or, ◌≡◌, List, [], ◌∷◌, ◌++◌, map, sym, ap, ap₂, ◌∙◌, append_assoc}
use Rattle.std.proofs.lemmas.List.{append-nil, map_more, map-append}
use Rattle.std.specs.Prelude.{Option}
use Rattle.ic_laws.specs.Tree.{Spelled, Bound}
use Rattle.ic_laws.specs.declared.tree.Tree.TheOpen as one
use Rattle.ic_laws.proofs.binding.Again.{bound_node, bound-node}
use Rattle.ic_laws.specs.Binding.{Binders, BindsPair, BoundPair, bound_pair_of, bound_under, pair_binds, pairs_bound, with_variables}
use Rattle.ic_laws.specs.Parse.{Pair, node}
use Rattle.ic_laws.specs.declared.scene.Scene.{Scene}

pub pairs_bound_push : (pairs : List BindsPair) (pair : BindsPair) (binders : Binders) → pairs_bound (pairs ++ pair ∷ []) binders ≡ pairs_bound pairs binders ++ bound_pair_of pair.variable (pair.value (with_variables pairs binders)) ∷ []
pairs_bound_push [] pair binders = ap (λ seen. bound_pair_of pair.variable (pair.value seen) ∷ []) (sym (append-nil binders))
pairs_bound_push (p ∷ ps) pair binders =
    ap (λ rest. bound_pair_of p.variable (p.value binders) ∷ rest)
    (pairs_bound_push ps pair (binders ++ p.variable ∷ [])
    ∙ ap (λ seen. pairs_bound ps (binders ++ p.variable ∷ []) ++ bound_pair_of pair.variable (pair.value seen) ∷ []) (append_assoc binders (p.variable ∷ []) (map (λ (x : BindsPair). x.variable) ps)))

module _ {X : Type 0} (f : X → BindsPair) (pairs : List X) (binders : Binders) where
  abbrev so_far : ℕ → List BindsPair
  so_far i = map f (take i pairs)

  pub pairs_more : (i : ℕ) (d : X) → i < length pairs
      → pairs_bound (so_far (i + 1)) binders ≡ pairs_bound (so_far i) binders ++ bound_pair_of (f (get_or pairs i d)).variable ((f (get_or pairs i d)).value (with_variables (so_far i) binders)) ∷ []
  pairs_more i d within = ap (λ ps. pairs_bound ps binders) (map_more f pairs i d within) ∙ pairs_bound_push (so_far i) (f (get_or pairs i d)) binders

  pub variables_more : (i : ℕ) (d : X) → i < length pairs → with_variables (so_far (i + 1)) binders ≡ with_variables (so_far i) binders ++ (f (get_or pairs i d)).variable ∷ []
  variables_more i d within =
      ap (λ ps. with_variables ps binders) (map_more f pairs i d within)
      ∙ (ap (λ names. binders ++ names) (map-append (λ (x : BindsPair). x.variable) (so_far i) (f (get_or pairs i d) ∷ []))
      ∙ sym (append_assoc binders (map (λ (x : BindsPair). x.variable) (so_far i)) ((f (get_or pairs i d)).variable ∷ [])))

  -- one more pair in the code's loop
  pub pairs_step : (i : ℕ) (d : X) (out out_after : List BoundPair) (seen seen_after : Binders) (variable again : List ℕ) (value : Bound) → i < length pairs → d ≡ get_or pairs i d → out ≡ pairs_bound (so_far i) binders
      → seen ≡ with_variables (so_far i) binders → value ≡ (f d).value seen → variable ≡ (f d).variable → again ≡ (f d).variable → out_after ≡ out ++ bound_pair_of variable value ∷ [] → seen_after ≡ seen ++ again ∷ []
      → (out_after ≡ pairs_bound (so_far (i + 1)) binders) × (seen_after ≡ with_variables (so_far (i + 1)) binders)
  pairs_step i d out out_after seen seen_after variable again value within item e_out e_seen e_value e_variable e_again pushed seen_pushed =
      let same : bound_pair_of variable value ≡ bound_pair_of (f (get_or pairs i d)).variable ((f (get_or pairs i d)).value (with_variables (so_far i) binders)) =
      ap₂ bound_pair_of (e_variable ∙ ap (λ x. (f x).variable) item) (e_value ∙ ap₂ (λ x s. (f x).value s) item e_seen) in (
        pushed ∙ (ap₂ (λ xs p. xs ++ p ∷ []) e_out same ∙ sym (pairs_more i d within)),
        seen_pushed ∙ (ap₂ (λ xs v. xs ++ v ∷ []) e_seen (e_again ∙ ap (λ x. (f x).variable) item) ∙ sym (variables_more i d within)),
      )

-- a LET that the code has made
pub let_made : (english : List ℕ → Option ℕ) (scene : Scene) (scope : Option ℕ) (pairs : List Pair) (body : Spelled) (seen : Binders) (ps : List BoundPair) (t : Bound) → ps ≡ pairs_bound (map (pair_binds english scene scope) pairs) seen
    → t ≡ bound_under english scene scope body (with_variables (map (pair_binds english scene scope) pairs) seen) → bound_node (one.Let ps t) ≡ bound_under english scene scope (node (one.Let pairs body)) seen
let_made english scene scope pairs body seen ps t e f =
    ap₂ (λ (xs : List BoundPair) (u : Bound). bound_node (one.Let xs u)) e f ∙ sym (bound-node english scene scope (one.Let pairs body) seen)
