-- What holds of each node and each pair of a formula gives what holds of those of it bound, and of it spelled.
use Rattle.std.proofs.Common.{ℕ, List, [], ◌∷◌, ◌++◌, map, Option, None, Some, refl, sym, subst}
use Rattle.std.specs.List.{AllByRecursion}
use Rattle.ic_laws.specs.Binding.{Binders, BoundPair, all_bound, bound_call, bound_pair_of, bound_under, pair_binds, pairs_bound, spelled_kind, spelled_with, with_parameters, with_variables}
use Rattle.ic_laws.specs.Parse.{Pair, SpelledKind, node, pair_of}
use Rattle.ic_laws.specs.Tree.{Bound, Spelled}
use Rattle.ic_laws.specs.declared.scene.Scene.{Scene}
use Rattle.ic_laws.specs.declared.tree.LetPair.{every_here-LetPair, every_made-LetPair}
use Rattle.ic_laws.specs.declared.tree.NameKey.{NameKey}
use Rattle.ic_laws.specs.declared.tree.NameMention.{NameMention}
use Rattle.ic_laws.specs.declared.tree.SheetMention.{SheetMention}
use Rattle.ic_laws.specs.declared.tree.Tree.TheOpen.{LetPair-F}
use Rattle.ic_laws.specs.declared.tree.Tree.TheOpen as one
use Rattle.ic_laws.proofs.binding.Again.{BoundKind, bound-node, bound_node, children_spelled, once, pair_spelled, spelled-node, under}
use Rattle.ic_laws.proofs.binding.Induction.{Every, EveryPair, OfChildren, by_nodes, every_below, every_here, every_made, every_value}

-- a variable of LET with its value, as the parts of a pair
abbrev pub SpelledParts : Type 0
SpelledParts = LetPair-F (Option (List ℕ)) (List ℕ) Spelled Pair

abbrev pub BoundParts : Type 0
BoundParts = LetPair-F SheetMention NameMention Bound BoundPair

module _ (english : List ℕ → Option ℕ) (scene : Scene) (scope : Option ℕ) (L : SpelledKind → Type 0) (M : SpelledParts → Type 0) (L2 : BoundKind → Type 0) (M2 : BoundParts → Type 0) where
  -- a fact of each node becomes another of the node that it is bound to, and so does one of each pair
  pub record BindsFacts : Type 0 where
    pub node : (kind : SpelledKind) (binders : Binders) → L kind → L2 (once english scene scope kind binders)
    pub pair : (variable : List ℕ) (value : Spelled) (binders : Binders) → M (record { variable = variable; value = value }) → M2 (record { variable = variable; value = bound_under english scene scope value binders })

  module _ (facts : BindsFacts) where
    abbrev Goes : Spelled → Type 0
    Goes t = Every L M t → (binders : Binders) → Every L2 M2 (bound_under english scene scope t binders)

    abbrev PairGoes : Pair → Type 0
    PairGoes pair = EveryPair L M pair → (binders : Binders) → EveryPair L2 M2 (bound_pair_of pair.variable (bound_under english scene scope pair.value binders))

    all_go : (ts : List Spelled) (binders : Binders) → AllByRecursion Goes ts → AllByRecursion (Every L M) ts → AllByRecursion (Every L2 M2) (all_bound (map (under english scene scope) ts) binders)
    all_go [] binders h each = tt
    all_go (t ∷ ts) binders h each = (h.0 each.0 binders, all_go ts binders h.1 each.1)

    pairs_go : (ps : List Pair) (binders : Binders) → AllByRecursion PairGoes ps → AllByRecursion (EveryPair L M) ps → AllByRecursion (EveryPair L2 M2) (pairs_bound (map (pair_binds english scene scope) ps) binders)
    pairs_go [] binders h each = tt
    pairs_go (p ∷ ps) binders h each = (h.0 each.0 binders, pairs_go ps (binders ++ p.variable ∷ []) h.1 each.1)

    below_goes : (kind : SpelledKind) (binders : Binders) → OfChildren Goes PairGoes kind → OfChildren (Every L M) (EveryPair L M) kind → OfChildren (Every L2 M2) (EveryPair L2 M2) (once english scene scope kind binders)
    below_goes (one.Paren x) binders h each = h each binders
    below_goes (one.Prefix sign x) binders h each = h each binders
    below_goes (one.Percent x) binders h each = h each binders
    below_goes (one.Spill x) binders h each = h each binders
    below_goes (one.Binary sign a b) binders h each = (h.0 each.0 binders, h.1 each.1 binders)
    below_goes (one.Fun number arguments) binders h each = all_go arguments binders h each
    below_goes (one.Call word arguments) binders h each = at (english word)
      where
        at : (found : Option ℕ) → OfChildren (Every L2 M2) (EveryPair L2 M2) (bound_call english scene scope found word (map (under english scene scope) arguments) binders)
        at (Some number) = all_go arguments binders h each
        at None = all_go arguments binders h each
    below_goes (one.Let pairs body) binders h each =
        (pairs_go pairs binders h.0 each.0, h.1 each.1 (with_variables (map (pair_binds english scene scope) pairs) binders))
    below_goes (one.Lambda parameters body) binders h each = h each (with_parameters parameters binders)
    below_goes (one.Apply x arguments) binders h each = (h.0 each.0 binders, all_go arguments binders h.1 each.1)
    below_goes kind binders h each = tt

    node_goes : (kind : SpelledKind) → OfChildren Goes PairGoes kind → Goes (node kind)
    node_goes kind h each binders =
        subst (Every L2 M2) (sym (bound-node english scene scope kind binders))
        (every_made L2 M2 (once english scene scope kind binders) (facts.node kind binders (every_here L M kind each)) (below_goes kind binders h (every_below L M kind each)))

    pair_goes : (variable : List ℕ) (value : Spelled) → Goes value → PairGoes (pair_of variable value)
    pair_goes variable value h each binders =
        every_made-LetPair SheetMention NameMention L2 M2 (record { variable = variable; value = bound_under english scene scope value binders })
        (record { variable = variable; value = (bound_under english scene scope value binders, h (every_value L M (pair_of variable value) each) binders) }) refl
        (facts.pair variable value binders (every_here-LetPair (Option (List ℕ)) (List ℕ) L M (pair_of variable value) each))

    pub every_bound : (t : Spelled) → Every L M t → (binders : Binders) → Every L2 M2 (bound_under english scene scope t binders)
    every_bound = by_nodes Goes PairGoes node_goes pair_goes

module _ (sheet_text : ℕ → List ℕ) (key_text : NameKey → List ℕ) (L : BoundKind → Type 0) (M : BoundParts → Type 0) (L2 : SpelledKind → Type 0) (M2 : SpelledParts → Type 0) where
  abbrev spelled_of : BoundKind → SpelledKind
  spelled_of kind = spelled_kind sheet_text key_text (children_spelled sheet_text key_text kind)

  -- the same of what a node and a pair are spelled
  pub record SpellsFacts : Type 0 where
    pub node : (kind : BoundKind) → L kind → L2 (spelled_kind sheet_text key_text (children_spelled sheet_text key_text kind))
    pub pair : (variable : List ℕ) (value : Bound) → M (record { variable = variable; value = value }) → M2 (record { variable = variable; value = spelled_with sheet_text key_text value })

  module _ (facts : SpellsFacts) where
    abbrev SpelledGoes : Bound → Type 0
    SpelledGoes t = Every L M t → Every L2 M2 (spelled_with sheet_text key_text t)

    abbrev SpelledPairGoes : BoundPair → Type 0
    SpelledPairGoes pair = EveryPair L M pair → EveryPair L2 M2 (pair_spelled sheet_text key_text pair)

    all_spelled : (ts : List Bound) → AllByRecursion SpelledGoes ts → AllByRecursion (Every L M) ts → AllByRecursion (Every L2 M2) (map (spelled_with sheet_text key_text) ts)
    all_spelled [] h each = tt
    all_spelled (t ∷ ts) h each = (h.0 each.0, all_spelled ts h.1 each.1)

    pairs_spelled : (ps : List BoundPair) → AllByRecursion SpelledPairGoes ps → AllByRecursion (EveryPair L M) ps → AllByRecursion (EveryPair L2 M2) (map (pair_spelled sheet_text key_text) ps)
    pairs_spelled [] h each = tt
    pairs_spelled (p ∷ ps) h each = (h.0 each.0, pairs_spelled ps h.1 each.1)

    below_spelled : (kind : BoundKind) → OfChildren SpelledGoes SpelledPairGoes kind → OfChildren (Every L M) (EveryPair L M) kind → OfChildren (Every L2 M2) (EveryPair L2 M2) (spelled_of kind)
    below_spelled (one.Paren x) h each = h each
    below_spelled (one.Prefix sign x) h each = h each
    below_spelled (one.Percent x) h each = h each
    below_spelled (one.Spill x) h each = h each
    below_spelled (one.Binary sign a b) h each = (h.0 each.0, h.1 each.1)
    below_spelled (one.Fun number arguments) h each = all_spelled arguments h each
    below_spelled (one.Call word arguments) h each = all_spelled arguments h each
    below_spelled (one.Let pairs body) h each = (pairs_spelled pairs h.0 each.0, h.1 each.1)
    below_spelled (one.Lambda parameters body) h each = h each
    below_spelled (one.Apply x arguments) h each = (h.0 each.0, all_spelled arguments h.1 each.1)
    below_spelled kind h each = tt

    node_spelled : (kind : BoundKind) → OfChildren SpelledGoes SpelledPairGoes kind → SpelledGoes (bound_node kind)
    node_spelled kind h each =
        subst (Every L2 M2) (sym (spelled-node sheet_text key_text kind))
        (every_made L2 M2 (spelled_of kind) (facts.node kind (every_here L M kind each)) (below_spelled kind h (every_below L M kind each)))

    pair_goes_spelled : (variable : List ℕ) (value : Bound) → SpelledGoes value → SpelledPairGoes (bound_pair_of variable value)
    pair_goes_spelled variable value h each =
        every_made-LetPair (Option (List ℕ)) (List ℕ) L2 M2 (record { variable = variable; value = spelled_with sheet_text key_text value })
        (record { variable = variable; value = (spelled_with sheet_text key_text value, h (every_value L M (bound_pair_of variable value) each)) }) refl
        (facts.pair variable value (every_here-LetPair SheetMention NameMention L M (bound_pair_of variable value) each))

    pub every_spelled : (t : Bound) → Every L M t → Every L2 M2 (spelled_with sheet_text key_text t)
    every_spelled = by_nodes SpelledGoes SpelledPairGoes node_spelled pair_goes_spelled
