-- What two facts of each node give together.
use Rattle.std.proofs.Common.{ℕ, List, [], ◌∷◌, refl}
use Rattle.std.specs.List.{AllByRecursion}
use Rattle.ic_laws.specs.Tree.{Kind}
use Rattle.ic_laws.specs.declared.tree.LetPair.{LetPair, every_here-LetPair, every_made-LetPair, roll-LetPair}
use Rattle.ic_laws.specs.declared.tree.Tree.{Tree, roll-Tree}
use Rattle.ic_laws.specs.declared.tree.Tree.TheOpen.{LetPair-F}
use Rattle.ic_laws.specs.declared.tree.Tree.TheOpen as one
use Rattle.ic_laws.proofs.binding.Induction.{Every, EveryPair, OfChildren, by_nodes, every_below, every_here, every_made, every_value}

module _ {S W : Type 0} (L : Kind S W → Type 0) (M : LetPair-F S W (Tree S W) (LetPair S W) → Type 0) (L2 : Kind S W → Type 0) (M2 : LetPair-F S W (Tree S W) (LetPair S W) → Type 0) (L3 : Kind S W → Type 0) (M3 : LetPair-F S W (Tree S W) (LetPair S W) → Type 0) where
  module _ (node_gives : (kind : Kind S W) → L kind → L2 kind → L3 kind) (pair_gives : (pair : LetPair-F S W (Tree S W) (LetPair S W)) → M pair → M2 pair → M3 pair) where
    abbrev Gives : Tree S W → Type 0
    Gives t = Every L M t → Every L2 M2 t → Every L3 M3 t

    abbrev PairGives : LetPair S W → Type 0
    PairGives pair = EveryPair L M pair → EveryPair L2 M2 pair → EveryPair L3 M3 pair

    all_give : (ts : List (Tree S W)) → AllByRecursion Gives ts → AllByRecursion (Every L M) ts → AllByRecursion (Every L2 M2) ts → AllByRecursion (Every L3 M3) ts
    all_give [] h a b = tt
    all_give (t ∷ ts) h a b = (h.0 a.0 b.0, all_give ts h.1 a.1 b.1)

    pairs_give : (ps : List (LetPair S W)) → AllByRecursion PairGives ps → AllByRecursion (EveryPair L M) ps → AllByRecursion (EveryPair L2 M2) ps → AllByRecursion (EveryPair L3 M3) ps
    pairs_give [] h a b = tt
    pairs_give (p ∷ ps) h a b = (h.0 a.0 b.0, pairs_give ps h.1 a.1 b.1)

    below_give : (kind : Kind S W) → OfChildren Gives PairGives kind → OfChildren (Every L M) (EveryPair L M) kind → OfChildren (Every L2 M2) (EveryPair L2 M2) kind → OfChildren (Every L3 M3) (EveryPair L3 M3) kind
    below_give (one.Paren x) h a b = h a b
    below_give (one.Prefix sign x) h a b = h a b
    below_give (one.Percent x) h a b = h a b
    below_give (one.Spill x) h a b = h a b
    below_give (one.Binary sign x y) h a b = (h.0 a.0 b.0, h.1 a.1 b.1)
    below_give (one.Fun number arguments) h a b = all_give arguments h a b
    below_give (one.Call word arguments) h a b = all_give arguments h a b
    below_give (one.Let pairs body) h a b = (pairs_give pairs h.0 a.0 b.0, h.1 a.1 b.1)
    below_give (one.Lambda parameters body) h a b = h a b
    below_give (one.Apply x arguments) h a b = (h.0 a.0 b.0, all_give arguments h.1 a.1 b.1)
    below_give kind h a b = tt

    node_give : (kind : Kind S W) → OfChildren Gives PairGives kind → Gives (roll-Tree S W kind)
    node_give kind h a b = every_made L3 M3 kind (node_gives kind (every_here L M kind a) (every_here L2 M2 kind b)) (below_give kind h (every_below L M kind a) (every_below L2 M2 kind b))

    pair_give : (variable : List ℕ) (value : Tree S W) → Gives value → PairGives (roll-LetPair S W (record { variable = variable; value = value }))
    pair_give variable value h a b =
        let pair : LetPair S W = roll-LetPair S W (record { variable = variable; value = value }) in
        every_made-LetPair S W L3 M3 (record { variable = variable; value = value }) (record { variable = variable; value = (value, h (every_value L M pair a) (every_value L2 M2 pair b)) }) refl
        (pair_gives (record { variable = variable; value = value }) (every_here-LetPair S W L M pair a) (every_here-LetPair S W L2 M2 pair b))

    -- what each node and each pair has by two facts of it, each has by a third
    pub every_both : (t : Tree S W) → Every L M t → Every L2 M2 t → Every L3 M3 t
    every_both = by_nodes Gives PairGives node_give pair_give
