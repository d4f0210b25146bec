-- Induction on trees, one node at a time.
use Rattle.std.specs.Prelude.{◌≡◌, ℕ, List, [], ◌∷◌, map}
use Rattle.std.specs.List.{AllByRecursion}
use Rattle.std.proofs.Common.{subst, ap, refl, ◌∙◌}
use Rattle.ic_laws.specs.Tree.{Kind}
use Rattle.ic_laws.specs.declared.tree.LetPair.{LetPair, roll-LetPair, every-LetPair, every_held-LetPair, every_made-LetPair}
use Rattle.ic_laws.specs.declared.tree.Tree.{Tree, Tree-F, roll-Tree, out-roll-Tree, map-Tree, ind-Tree, every-Tree, every_here-Tree, every_held-Tree, every_made-Tree}
use Rattle.ic_laws.specs.declared.tree.Tree.TheOpen.{LetPair-F}
use Rattle.ic_laws.specs.declared.tree.Tree.TheOpen as one

module _ {S W : Type 0} (P : Tree S W → Type 0) (Q : LetPair S W → Type 0) where
  -- P holds of each child of a node, and Q of each pair
  abbrev pub OfChildren : Kind S W → Type 0
  OfChildren (one.Paren x) = P x
  OfChildren (one.Prefix sign x) = P x
  OfChildren (one.Percent x) = P x
  OfChildren (one.Spill x) = P x
  OfChildren (one.Binary sign a b) = P a × P b
  OfChildren (one.Fun number arguments) = AllByRecursion P arguments
  OfChildren (one.Call word arguments) = AllByRecursion P arguments
  OfChildren (one.Let pairs body) = AllByRecursion Q pairs × P body
  OfChildren (one.Lambda parameters body) = P body
  OfChildren (one.Apply x arguments) = P x × AllByRecursion P arguments
  OfChildren kind = Unit {0}

  abbrev Held : Type 0
  Held = (t : Tree S W) × P t

  abbrev HeldPair : Type 0
  HeldPair = (p : LetPair S W) × Q p

  held_all : (es : List Held) → AllByRecursion P (map (λ e. e.0) es)
  held_all [] = tt
  held_all (e ∷ es) = (e.1, held_all es)

  held_pairs : (es : List HeldPair) → AllByRecursion Q (map (λ e. e.0) es)
  held_pairs [] = tt
  held_pairs (e ∷ es) = (e.1, held_pairs es)

  of_held : (y : Tree-F S W Held HeldPair) → OfChildren (map-Tree S W Held HeldPair (Tree S W) (LetPair S W) (λ e. e.0) (λ e. e.0) y)
  of_held (one.Num x) = tt
  of_held (one.Str x) = tt
  of_held (one.Bool x) = tt
  of_held (one.Err x) = tt
  of_held (one.Reference sheet place) = tt
  of_held (one.Local sheet word) = tt
  of_held (one.Word x) = tt
  of_held one.Empty = tt
  of_held (one.Paren x) = x.1
  of_held (one.Prefix sign x) = x.1
  of_held (one.Percent x) = x.1
  of_held (one.Spill x) = x.1
  of_held (one.Binary sign a b) = (a.1, b.1)
  of_held (one.Fun number arguments) = held_all arguments
  of_held (one.Call word arguments) = held_all arguments
  of_held (one.Let pairs body) = (held_pairs pairs, body.1)
  of_held (one.Lambda parameters body) = body.1
  of_held (one.Apply x arguments) = (x.1, held_all arguments)
  of_held (one.Array rows) = tt

  -- what holds of a node when it holds of its children holds of every tree
  pub by_nodes : ((kind : Kind S W) → OfChildren kind → P (roll-Tree S W kind))
      → ((variable : List ℕ) (value : Tree S W) → P value → Q (roll-LetPair S W (record { variable = variable; value = value }))) → (t : Tree S W) → P t
  by_nodes f g = ind-Tree S W P Q
      (λ x y e. subst (λ z. P (roll-Tree S W z)) e (f _ (of_held y)))
      (λ x y e. subst (λ z. Q (roll-LetPair S W z)) e (g y.variable y.value.0 y.value.1))

  -- the children of a node with the facts that hold of them
  abbrev bare : Tree-F S W Held HeldPair → Kind S W
  bare y = map-Tree S W Held HeldPair (Tree S W) (LetPair S W) (λ e. e.0) (λ e. e.0) y

  all_with : (ts : List (Tree S W)) → AllByRecursion P ts → (held : List Held) × (map (λ e. e.0) held ≡ ts)
  all_with [] h = ([], refl)
  all_with (t ∷ ts) h = let more = all_with ts h.1 in ((t, h.0) ∷ more.0, ap (λ us. t ∷ us) more.1)

  pairs_with : (ps : List (LetPair S W)) → AllByRecursion Q ps → (held : List HeldPair) × (map (λ e. e.0) held ≡ ps)
  pairs_with [] h = ([], refl)
  pairs_with (p ∷ ps) h = let more = pairs_with ps h.1 in ((p, h.0) ∷ more.0, ap (λ us. p ∷ us) more.1)

  with_facts : (kind : Kind S W) → OfChildren kind → (y : Tree-F S W Held HeldPair) × (bare y ≡ kind)
  with_facts (one.Num x) h = (one.Num x, refl)
  with_facts (one.Str x) h = (one.Str x, refl)
  with_facts (one.Bool x) h = (one.Bool x, refl)
  with_facts (one.Err x) h = (one.Err x, refl)
  with_facts (one.Reference sheet place) h = (one.Reference sheet place, refl)
  with_facts (one.Local sheet word) h = (one.Local sheet word, refl)
  with_facts (one.Word x) h = (one.Word x, refl)
  with_facts one.Empty h = (one.Empty, refl)
  with_facts (one.Paren x) h = (one.Paren (x, h), refl)
  with_facts (one.Prefix sign x) h = (one.Prefix sign (x, h), refl)
  with_facts (one.Percent x) h = (one.Percent (x, h), refl)
  with_facts (one.Spill x) h = (one.Spill (x, h), refl)
  with_facts (one.Binary sign a b) h = (one.Binary sign (a, h.0) (b, h.1), refl)
  with_facts (one.Fun number arguments) h =
      let held = all_with arguments h in (one.Fun number held.0, ap (λ (xs : List (Tree S W)). let k : Kind S W = one.Fun number xs in k) held.1)
  with_facts (one.Call word arguments) h =
      let held = all_with arguments h in (one.Call word held.0, ap (λ (xs : List (Tree S W)). let k : Kind S W = one.Call word xs in k) held.1)
  with_facts (one.Let pairs body) h =
      let held = pairs_with pairs h.0 in (one.Let held.0 (body, h.1), ap (λ (xs : List (LetPair S W)). let k : Kind S W = one.Let xs body in k) held.1)
  with_facts (one.Lambda parameters body) h = (one.Lambda parameters (body, h), refl)
  with_facts (one.Apply x arguments) h =
      let held = all_with arguments h.1 in (one.Apply (x, h.0) held.0, ap (λ (xs : List (Tree S W)). let k : Kind S W = one.Apply x xs in k) held.1)
  with_facts (one.Array rows) h = (one.Array rows, refl)

-- What holds of every node and of every pair of a tree.
module _ {S W : Type 0} (Here : Kind S W → Type 0) (HerePair : LetPair-F S W (Tree S W) (LetPair S W) → Type 0) where
  abbrev pub Every : Tree S W → Type 0
  Every t = every-Tree S W Here HerePair t

  abbrev pub EveryPair : LetPair S W → Type 0
  EveryPair pair = every-LetPair S W Here HerePair pair

  pub every_here : (kind : Kind S W) → Every (roll-Tree S W kind) → Here kind
  every_here kind h = subst Here (out-roll-Tree S W kind) (every_here-Tree S W Here HerePair (roll-Tree S W kind) h)

  pub every_below : (kind : Kind S W) → Every (roll-Tree S W kind) → OfChildren Every EveryPair kind
  every_below kind h =
      let held = every_held-Tree S W Here HerePair (roll-Tree S W kind) h in
      subst (OfChildren Every EveryPair) (held.1 ∙ out-roll-Tree S W kind) (of_held Every EveryPair held.0)

  pub every_value : (pair : LetPair S W) → EveryPair pair → Every pair.value
  every_value pair h =
      let held = every_held-LetPair S W Here HerePair pair h in
      subst Every (ap (λ (p : LetPair-F S W (Tree S W) (LetPair S W)). p.value) held.1) held.0.value.1

  pub every_made : (kind : Kind S W) → Here kind → OfChildren Every EveryPair kind → Every (roll-Tree S W kind)
  every_made kind here below =
      let held = with_facts Every EveryPair kind below in every_made-Tree S W Here HerePair kind held.0 held.1 here

  -- what holds of all nodes and of all pairs holds of those of a tree
  pub every_of_all : ((kind : Kind S W) → Here kind) → ((pair : LetPair-F S W (Tree S W) (LetPair S W)) → HerePair pair) → (t : Tree S W) → Every t
  every_of_all here pair_here =
      by_nodes Every EveryPair (λ kind below. every_made kind (here kind) below)
      (λ variable value h.
      every_made-LetPair S W Here HerePair (record { variable = variable; value = value }) (record { variable = variable; value = (value, h) }) refl
      (pair_here (record { variable = variable; value = value })))
