-- What is made of a fold over a tree is a fold over it.
use Rattle.std.proofs.Common.{◌≡◌, ◌∙◌, refl, sym, ap, ap₂, ℕ, List, [], ◌∷◌, map}
use Rattle.std.specs.List.{AllByRecursion}
use Rattle.ic_laws.specs.Tree.{Kind}
use Rattle.ic_laws.specs.declared.tree.LetPair.{LetPair, fold-LetPair, fold-roll-LetPair, roll-LetPair}
use Rattle.ic_laws.specs.declared.tree.Tree.{Tree, Tree-F, fold-Tree, fold-roll-Tree, map-Tree, roll-Tree}
use Rattle.ic_laws.specs.declared.tree.Tree.TheOpen.{LetPair-F}
use Rattle.ic_laws.specs.declared.tree.Tree.TheOpen as one
use Rattle.ic_laws.proofs.binding.Induction.{OfChildren, by_nodes}

module _ {S W A B A2 B2 : Type 0} (step : Tree-F S W A B → A) (pair_step : LetPair-F S W A B → B) (step2 : Tree-F S W A2 B2 → A2) (pair_step2 : LetPair-F S W A2 B2 → B2) (h : A → A2) (hp : B → B2)
    (same : (kind : Tree-F S W A B) → h (step kind) ≡ step2 (map-Tree S W A B A2 B2 h hp kind)) (same_pair : (variable : List ℕ) (value : A) → hp (pair_step (record { variable = variable; value = value })) ≡ pair_step2 (record { variable = variable; value = h value })) where
  abbrev first : Tree S W → A
  first = fold-Tree S W A B step pair_step

  abbrev first_pair : LetPair S W → B
  first_pair = fold-LetPair S W A B step pair_step

  abbrev then : Tree S W → A2
  then = fold-Tree S W A2 B2 step2 pair_step2

  abbrev then_pair : LetPair S W → B2
  then_pair = fold-LetPair S W A2 B2 step2 pair_step2

  abbrev Fused : Tree S W → Type 0
  Fused t = h (first t) ≡ then t

  abbrev PairFused : LetPair S W → Type 0
  PairFused pair = hp (first_pair pair) ≡ then_pair pair

  all_fused : (ts : List (Tree S W)) → AllByRecursion Fused ts → map h (map first ts) ≡ map then ts
  all_fused [] e = refl
  all_fused (t ∷ ts) e = ap₂ ◌∷◌ e.0 (all_fused ts e.1)

  pairs_fused : (ps : List (LetPair S W)) → AllByRecursion PairFused ps → map hp (map first_pair ps) ≡ map then_pair ps
  pairs_fused [] e = refl
  pairs_fused (p ∷ ps) e = ap₂ ◌∷◌ e.0 (pairs_fused ps e.1)

  abbrev K : Type 0
  K = Tree-F S W A2 B2

  parts_fused : (kind : Kind S W) → OfChildren Fused PairFused kind → map-Tree S W A B A2 B2 h hp (map-Tree S W (Tree S W) (LetPair S W) A B first first_pair kind) ≡ map-Tree S W (Tree S W) (LetPair S W) A2 B2 then then_pair kind
  parts_fused (one.Num units) e = refl
  parts_fused (one.Str text) e = refl
  parts_fused (one.Bool value) e = refl
  parts_fused (one.Err code) e = refl
  parts_fused (one.Reference sheet place) e = refl
  parts_fused (one.Local sheet word) e = refl
  parts_fused (one.Word word) e = refl
  parts_fused one.Empty e = refl
  parts_fused (one.Paren x) e = ap (λ (t : A2). let k : K = one.Paren t in k) e
  parts_fused (one.Prefix sign x) e = ap (λ (t : A2). let k : K = one.Prefix sign t in k) e
  parts_fused (one.Percent x) e = ap (λ (t : A2). let k : K = one.Percent t in k) e
  parts_fused (one.Spill x) e = ap (λ (t : A2). let k : K = one.Spill t in k) e
  parts_fused (one.Binary sign a b) e = ap₂ (λ (t u : A2). let k : K = one.Binary sign t u in k) e.0 e.1
  parts_fused (one.Fun number arguments) e = ap (λ (ts : List A2). let k : K = one.Fun number ts in k) (all_fused arguments e)
  parts_fused (one.Call word arguments) e = ap (λ (ts : List A2). let k : K = one.Call word ts in k) (all_fused arguments e)
  parts_fused (one.Let pairs body) e = ap₂ (λ (ps : List B2) (t : A2). let k : K = one.Let ps t in k) (pairs_fused pairs e.0) e.1
  parts_fused (one.Lambda parameters body) e = ap (λ (t : A2). let k : K = one.Lambda parameters t in k) e
  parts_fused (one.Apply x arguments) e = ap₂ (λ (t : A2) (ts : List A2). let k : K = one.Apply t ts in k) e.0 (all_fused arguments e.1)
  parts_fused (one.Array rows) e = refl

  node_fused : (kind : Kind S W) → OfChildren Fused PairFused kind → Fused (roll-Tree S W kind)
  node_fused kind e =
      ap h (fold-roll-Tree S W A B step pair_step kind)
      ∙ same (map-Tree S W (Tree S W) (LetPair S W) A B first first_pair kind)
      ∙ ap step2 (parts_fused kind e)
      ∙ sym (fold-roll-Tree S W A2 B2 step2 pair_step2 kind)

  pair_fused : (variable : List ℕ) (value : Tree S W) → Fused value → PairFused (roll-LetPair S W (record { variable = variable; value = value }))
  pair_fused variable value e =
      ap hp (fold-roll-LetPair S W A B step pair_step (record { variable = variable; value = value }))
      ∙ same_pair variable (first value)
      ∙ ap (λ (x : A2). pair_step2 (record { variable = variable; value = x })) e
      ∙ sym (fold-roll-LetPair S W A2 B2 step2 pair_step2 (record { variable = variable; value = value }))

  -- what is made of a fold is a fold
  pub fused : (t : Tree S W) → h (fold-Tree S W A B step pair_step t) ≡ fold-Tree S W A2 B2 step2 pair_step2 t
  fused = by_nodes Fused PairFused node_fused pair_fused
