-- A formula with its lost references is well-formed where it was, and what holds of its nodes.
use Rattle.std.proofs.Common.{◌≡◌, ◌≢◌, ◌∙◌, refl, sym, ap, subst, ℕ, ℤ, ◌+◌, ◌≤◌, List, [], ◌∷◌, map, true, false, not}
use Rattle.std.specs.List.{AllByRecursion}
use Rattle.ic_laws.specs.Tree.{CallsCallable, HasArguments, HasElements, HasNames, HasOperands, HasParts, HasPlaces, HasUnsigned, IsKindWell, IsOperand, IsPairWell, IsThere, IsWellFormed, Kind, Names, is_argument_list, is_callable_kind, is_empty_kind, kind_level, sign_level}
use Rattle.ic_laws.specs.declared.tree.LetPair.{LetPair, every_here-LetPair, every_made-LetPair, roll-LetPair}
use Rattle.ic_laws.specs.declared.tree.Tree.{Tree, out-Tree, out-roll-Tree, roll-Tree, roll-out-Tree}
use Rattle.ic_laws.specs.declared.tree.Tree.TheOpen.{LetPair-F}
use Rattle.ic_laws.specs.declared.tree.Tree.TheOpen as one
use Rattle.ic_laws.proofs.binding.Induction.{Every, EveryPair, OfChildren, by_nodes, every_below, every_here, every_made, every_value}
use Rattle.ic_laws.proofs.kept.Shapes.{SameTop}
use Rattle.ic_machine.specs.Lost.{lost_kind, with_lost}
use Rattle.ic_machine.proofs.lost.LostTrees.{brackets_lost, by_place, children_lost, height_lost, lost-node, lost_pair}

module _ {S W : Type 0} (row column : ℤ) where
  -- what holds of each node and each pair of a formula gives what holds of those of it with its lost references
  module _ (L : Kind S W → Type 0) (M : LetPair-F S W (Tree S W) (LetPair S W) → Type 0) (L2 : Kind S W → Type 0) (M2 : LetPair-F S W (Tree S W) (LetPair S W) → Type 0) where
    module _ (node : (kind : Kind S W) → L kind → L2 (lost_kind row column (children_lost row column kind)))
        (pair : (variable : List ℕ) (value : Tree S W) → M (record { variable = variable; value = value }) → M2 (record { variable = variable; value = with_lost row column value })) where
      abbrev Goes : Tree S W → Type 0
      Goes t = Every L M t → Every L2 M2 (with_lost row column t)

      abbrev PairGoes : LetPair S W → Type 0
      PairGoes p = EveryPair L M p → EveryPair L2 M2 (lost_pair row column p)

      all_go : (ts : List (Tree S W)) → AllByRecursion Goes ts → AllByRecursion (Every L M) ts → AllByRecursion (Every L2 M2) (map (with_lost row column) ts)
      all_go [] h each = tt
      all_go (t ∷ ts) h each = (h.0 each.0, all_go ts h.1 each.1)

      pairs_go : (ps : List (LetPair S W)) → AllByRecursion PairGoes ps → AllByRecursion (EveryPair L M) ps → AllByRecursion (EveryPair L2 M2) (map (lost_pair row column) ps)
      pairs_go [] h each = tt
      pairs_go (p ∷ ps) h each = (h.0 each.0, pairs_go ps h.1 each.1)

      below_goes : (kind : Kind S W) → OfChildren Goes PairGoes kind → OfChildren (Every L M) (EveryPair L M) kind → OfChildren (Every L2 M2) (EveryPair L2 M2) (lost_kind row column (children_lost row column kind))
      below_goes (one.Reference sheet place) h each = by_place row column (OfChildren (Every L2 M2) (EveryPair L2 M2)) sheet place tt tt
      below_goes (one.Paren x) h each = h each
      below_goes (one.Prefix sign x) h each = h each
      below_goes (one.Percent x) h each = h each
      below_goes (one.Spill x) h each = h each
      below_goes (one.Binary sign a b) h each = (h.0 each.0, h.1 each.1)
      below_goes (one.Fun number arguments) h each = all_go arguments h each
      below_goes (one.Call word arguments) h each = all_go arguments h each
      below_goes (one.Let pairs body) h each = (pairs_go pairs h.0 each.0, h.1 each.1)
      below_goes (one.Lambda parameters body) h each = h each
      below_goes (one.Apply x arguments) h each = (h.0 each.0, all_go arguments h.1 each.1)
      below_goes kind h each = tt

      node_goes : (kind : Kind S W) → OfChildren Goes PairGoes kind → Goes (roll-Tree S W kind)
      node_goes kind h each =
          subst (Every L2 M2) (sym (lost-node row column kind))
          (every_made L2 M2 (lost_kind row column (children_lost row column kind)) (node kind (every_here L M kind each)) (below_goes kind h (every_below L M kind each)))

      pair_goes : (variable : List ℕ) (value : Tree S W) → Goes value → PairGoes (roll-LetPair S W (record { variable = variable; value = value }))
      pair_goes variable value h each =
          let old : LetPair S W = roll-LetPair S W (record { variable = variable; value = value }) in
          every_made-LetPair S W L2 M2 (record { variable = variable; value = with_lost row column value }) (record { variable = variable; value = (with_lost row column value, h (every_value L M old each)) }) refl
          (pair variable value (every_here-LetPair S W L M old each))

      pub every_lost : (t : Tree S W) → Every L M t → Every L2 M2 (with_lost row column t)
      every_lost = by_nodes Goes PairGoes node_goes pair_goes

  -- at the top
  abbrev lost_of : Kind S W → Kind S W
  lost_of kind = lost_kind row column (children_lost row column kind)

  level_lost : (kind : Kind S W) → kind_level (lost_of kind) ≡ kind_level kind
  level_lost (one.Reference sheet place) = by_place row column (λ k. kind_level k ≡ 8) sheet place refl refl
  level_lost kind = refl

  empty_lost : (kind : Kind S W) → is_empty_kind (lost_of kind) ≡ is_empty_kind kind
  empty_lost (one.Reference sheet place) = by_place row column (λ k. is_empty_kind k ≡ false) sheet place refl refl
  empty_lost kind = refl

  callable_lost : (kind : Kind S W) → is_callable_kind (lost_of kind) ≡ is_callable_kind kind
  callable_lost (one.Reference sheet place) = by_place row column (λ k. is_callable_kind k ≡ false) sheet place refl refl
  callable_lost kind = refl

  node_top : (kind : Kind S W) → SameTop (roll-Tree S W (lost_of kind)) (roll-Tree S W kind)
  node_top kind = record {
    level = ap kind_level (out-roll-Tree S W (lost_of kind)) ∙ (level_lost kind ∙ sym (ap kind_level (out-roll-Tree S W kind)));
    empty = ap is_empty_kind (out-roll-Tree S W (lost_of kind)) ∙ (empty_lost kind ∙ sym (ap is_empty_kind (out-roll-Tree S W kind)));
    callable = ap is_callable_kind (out-roll-Tree S W (lost_of kind)) ∙ (callable_lost kind ∙ sym (ap is_callable_kind (out-roll-Tree S W kind)));
  }

  top_lost : (t : Tree S W) → SameTop (with_lost row column t) t
  top_lost t =
      subst (λ (u : Tree S W). SameTop (with_lost row column u) u) (roll-out-Tree S W t)
      (subst (λ (u : Tree S W). SameTop u (roll-Tree S W (out-Tree S W t))) (sym (lost-node row column (out-Tree S W t))) (node_top (out-Tree S W t)))

  -- it is well-formed where it was
  tight_lost : (least : ℕ) (t : Tree S W) → IsOperand least t → IsOperand least (with_lost row column t)
  tight_lost least t h = subst (λ n. least ≤ n) (sym (top_lost t).level) h

  there_lost : (t : Tree S W) → IsThere t → IsThere (with_lost row column t)
  there_lost t h = (top_lost t).empty ∙ h

  list_lost : (ts : List (Tree S W)) → is_argument_list ts ≡ true → is_argument_list (map (with_lost row column) ts) ≡ true
  list_lost [] h = refl
  list_lost (t ∷ []) h = ap not (top_lost t).empty ∙ h
  list_lost (t ∷ u ∷ ts) h = refl

  pairs_there : (ps : List (LetPair S W)) → ps ≢ [] → map (lost_pair row column) ps ≢ []
  pairs_there [] h e = h refl
  pairs_there (p ∷ ps) h e = cc

  abbrev below : Kind S W → Kind S W
  below kind = children_lost row column kind

  operands_lost : (kind : Kind S W) → HasOperands kind → HasOperands (below kind)
  operands_lost (one.Binary sign a b) h = (tight_lost (sign_level sign) a h.0, tight_lost (sign_level sign + 1) b h.1)
  operands_lost (one.Prefix sign x) h = tight_lost 6 x h
  operands_lost (one.Percent x) h = tight_lost 7 x h
  operands_lost (one.Spill x) h = tight_lost 7 x h
  operands_lost (one.Apply x arguments) h = tight_lost 7 x h
  operands_lost kind h = tt

  called_lost : (kind : Kind S W) → CallsCallable kind → CallsCallable (below kind)
  called_lost (one.Apply x arguments) h = (top_lost x).callable ∙ h
  called_lost kind h = tt

  arguments_lost : (kind : Kind S W) → HasArguments kind → HasArguments (below kind)
  arguments_lost (one.Fun number arguments) h = list_lost arguments h
  arguments_lost (one.Call word arguments) h = list_lost arguments h
  arguments_lost (one.Apply x arguments) h = list_lost arguments h
  arguments_lost kind h = tt

  parts_lost : (kind : Kind S W) → HasParts kind → HasParts (below kind)
  parts_lost (one.Paren x) h = there_lost x h
  parts_lost (one.Prefix sign x) h = there_lost x h
  parts_lost (one.Percent x) h = there_lost x h
  parts_lost (one.Spill x) h = there_lost x h
  parts_lost (one.Binary sign a b) h = (there_lost a h.0, there_lost b h.1)
  parts_lost (one.Let pairs body) h = there_lost body h
  parts_lost (one.Lambda parameters body) h = there_lost body h
  parts_lost (one.Apply x arguments) h = there_lost x h
  parts_lost kind h = tt

  elements_lost : (kind : Kind S W) → HasElements kind → HasElements (below kind)
  elements_lost (one.Let pairs body) h = pairs_there pairs h
  elements_lost (one.Array rows) h = h
  elements_lost kind h = tt

  unsigned_lost : (kind : Kind S W) → HasUnsigned kind → HasUnsigned (below kind)
  unsigned_lost (one.Num units) h = h
  unsigned_lost (one.Array rows) h = h
  unsigned_lost kind h = tt

  module _ (names : Names S W) (let_fn lambda_fn : ℕ) where
    names_lost : (kind : Kind S W) → HasNames names let_fn lambda_fn kind → HasNames names let_fn lambda_fn (below kind)
    names_lost (one.Reference sheet place) h = h
    names_lost (one.Local sheet word) h = h
    names_lost (one.Word word) h = h
    names_lost (one.Call word arguments) h = h
    names_lost (one.Fun number arguments) h = h
    names_lost (one.Lambda parameters body) h = h
    names_lost kind h = tt

    places_lost : (kind : Kind S W) → HasPlaces kind → HasPlaces (below kind)
    places_lost (one.Reference sheet place) h = h
    places_lost kind h = tt

    below_well : (kind : Kind S W) → IsKindWell names let_fn lambda_fn kind → IsKindWell names let_fn lambda_fn (below kind)
    below_well kind h = record {
      operands = operands_lost kind h.operands;
      called = called_lost kind h.called;
      arguments = arguments_lost kind h.arguments;
      parts = parts_lost kind h.parts;
      elements = elements_lost kind h.elements;
      unsigned = unsigned_lost kind h.unsigned;
      words = names_lost kind h.words;
      places = places_lost kind h.places;
    }

    kind_well : (kind : Kind S W) → IsKindWell names let_fn lambda_fn kind → IsKindWell names let_fn lambda_fn (lost_of kind)
    kind_well (one.Reference sheet place) h =
        by_place row column (IsKindWell names let_fn lambda_fn) sheet place (below_well (one.Reference sheet place) h)
        (record { operands = tt; called = tt; arguments = tt; parts = tt; elements = tt; unsigned = tt; words = tt; places = tt })
    kind_well kind h = below_well kind h

    pub well_lost : (t : Tree S W) → IsWellFormed names let_fn lambda_fn t → IsWellFormed names let_fn lambda_fn (with_lost row column t)
    well_lost t h = record {
      nodes = every_lost (IsKindWell names let_fn lambda_fn) IsPairWell (IsKindWell names let_fn lambda_fn) IsPairWell kind_well
          (λ variable value p. record { variable = p.variable; value = there_lost value p.value }) t h.nodes;
      there = there_lost t h.there;
      few_brackets = subst (λ n. n ≤ 128) (sym (brackets_lost row column t)) h.few_brackets;
      low = subst (λ n. n ≤ 1024) (sym (height_lost row column t)) h.low;
    }
