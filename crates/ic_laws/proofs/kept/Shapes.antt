-- Binding and spelling change the mentions of a formula, and nothing else: how tightly it binds, how high it is, how many
-- brackets are open in it, whether it is there and whether it can be called all stay.
use mathlib.Core.Path.{fun_ext}
use Rattle.std.proofs.Common.{◌≡◌, ℕ, ◌+◌, List, [], ◌∷◌, ◌++◌, map, max, true, false, not, Option, None, Some, refl, sym, ap, ap₂, subst, ◌∙◌}
use Rattle.std.specs.List.{AllByRecursion}
use Rattle.ic_laws.specs.Binding.{Binders, BoundPair, all_bound, bound_call, bound_under, pair_binds, pairs_bound, spelled_kind, spelled_with, with_parameters, with_variables}
use Rattle.ic_laws.specs.Greatest.{greatest}
use Rattle.ic_laws.specs.Parse.{Pair, SpelledKind, node}
use Rattle.ic_laws.specs.Tree.{Bound, Spelled, brackets_step, height, height_step, is_argument_list, is_callable, is_callable_kind, is_empty, is_empty_kind, kind_level, level, open_brackets}
use Rattle.ic_laws.specs.declared.scene.Scene.{Scene}
use Rattle.ic_laws.specs.declared.tree.LetPair.{LetPair, fold-roll-LetPair}
use Rattle.ic_laws.specs.declared.tree.NameKey.{NameKey}
use Rattle.ic_laws.specs.declared.tree.NameMention.{NameMention}
use Rattle.ic_laws.specs.declared.tree.SheetMention.{SheetMention}
use Rattle.ic_laws.specs.declared.tree.Tree.{Tree, Tree-F, fold-roll-Tree, map-Tree, out-Tree, out-roll-Tree, roll-out-Tree}
use Rattle.ic_laws.specs.declared.tree.Tree.TheOpen as one
use Rattle.ic_laws.proofs.binding.Again.{BoundKind, bound-node, bound_node, children_spelled, once, pair_spelled, spelled-node, under}
use Rattle.ic_laws.proofs.binding.Induction.{OfChildren, by_nodes}
use Rattle.ic_laws.proofs.parsing.Nodes.{brackets-node, callable-node, empty-node, height-node, level-node, node_of, with_numbers}

-- a node of a bound formula with a number for each child
abbrev pub bound_numbers : (Bound → ℕ) → BoundKind → Tree-F SheetMention NameMention ℕ ℕ
bound_numbers count kind = map-Tree SheetMention NameMention Bound BoundPair ℕ ℕ count (λ pair. count pair.value) kind

bound_height-node : (kind : BoundKind) → height (bound_node kind) ≡ height_step (bound_numbers height kind)
bound_height-node kind =
    fold-roll-Tree SheetMention NameMention ℕ ℕ height_step (λ pair. pair.value) kind
    ∙ ap (λ (g : BoundPair → ℕ). height_step (map-Tree SheetMention NameMention Bound BoundPair ℕ ℕ height g kind))
    (fun_ext (λ pair. fold-roll-LetPair SheetMention NameMention ℕ ℕ height_step (λ pair. pair.value) (record { variable = pair.variable; value = pair.value })))

bound_brackets-node : (kind : BoundKind) → open_brackets (bound_node kind) ≡ brackets_step (bound_numbers open_brackets kind)
bound_brackets-node kind =
    fold-roll-Tree SheetMention NameMention ℕ ℕ brackets_step (λ pair. pair.value) kind
    ∙ ap (λ (g : BoundPair → ℕ). brackets_step (map-Tree SheetMention NameMention Bound BoundPair ℕ ℕ open_brackets g kind))
    (fun_ext (λ pair. fold-roll-LetPair SheetMention NameMention ℕ ℕ brackets_step (λ pair. pair.value) (record { variable = pair.variable; value = pair.value })))

bound_level-node : (kind : BoundKind) → level (bound_node kind) ≡ kind_level kind
bound_level-node kind = ap (kind_level {S = SheetMention} {W = NameMention}) (out-roll-Tree SheetMention NameMention kind)

bound_empty-node : (kind : BoundKind) → is_empty (bound_node kind) ≡ is_empty_kind kind
bound_empty-node kind = ap (is_empty_kind {S = SheetMention} {W = NameMention}) (out-roll-Tree SheetMention NameMention kind)

bound_callable-node : (kind : BoundKind) → is_callable (bound_node kind) ≡ is_callable_kind kind
bound_callable-node kind = ap (is_callable_kind {S = SheetMention} {W = NameMention}) (out-roll-Tree SheetMention NameMention kind)

-- each bound formula is that of a node
bound_node_of : (t : Bound) → (kind : BoundKind) × (bound_node kind ≡ t)
bound_node_of t = (out-Tree SheetMention NameMention t, roll-out-Tree SheetMention NameMention t)

-- what is the same of two trees at their tops, and all through them
pub record SameTop {S W S2 W2 : Type 0} (t : Tree S W) (u : Tree S2 W2) : Type 0 where
  pub level : level t ≡ level u
  pub empty : is_empty t ≡ is_empty u
  pub callable : is_callable t ≡ is_callable u

pub record SameSize {S W S2 W2 : Type 0} (t : Tree S W) (u : Tree S2 W2) : Type 0 where
  pub height : height t ≡ height u
  pub brackets : open_brackets t ≡ open_brackets u

-- the same of lists
pub record SameSizes {S W S2 W2 : Type 0} (ts : List (Tree S W)) (us : List (Tree S2 W2)) : Type 0 where
  pub height : map height ts ≡ map height us
  pub brackets : map open_brackets ts ≡ map open_brackets us

pub record SamePairSizes {S W S2 W2 : Type 0} (ps : List (LetPair S W)) (qs : List (LetPair S2 W2)) : Type 0 where
  pub height : map (λ (p : LetPair S W). height p.value) ps ≡ map (λ (q : LetPair S2 W2). height q.value) qs
  pub brackets : map (λ (p : LetPair S W). open_brackets p.value) ps ≡ map (λ (q : LetPair S2 W2). open_brackets q.value) qs

-- Two nodes are of the same size where their steps are.
record SameStep {S W S2 W2 : Type 0} (a : Tree-F S W ℕ ℕ) (b : Tree-F S2 W2 ℕ ℕ) (c : Tree-F S W ℕ ℕ) (d : Tree-F S2 W2 ℕ ℕ) : Type 0 where
  height : height_step a ≡ height_step b
  brackets : brackets_step c ≡ brackets_step d

abbrev BoundLike : BoundKind → SpelledKind → Type 0
BoundLike kind like = SameStep (bound_numbers height kind) (with_numbers height like) (bound_numbers open_brackets kind) (with_numbers open_brackets like)

module _ (english : List ℕ → Option ℕ) (scene : Scene) (scope : Option ℕ) where
  abbrev kind_of : SpelledKind → Binders → BoundKind
  kind_of = once english scene scope

  -- at the top
  top_level : (kind : SpelledKind) (binders : Binders) → kind_level (kind_of kind binders) ≡ kind_level kind
  top_level (one.Call word arguments) binders = at (english word)
    where
      at : (found : Option ℕ) → kind_level (bound_call english scene scope found word (map (under english scene scope) arguments) binders) ≡ 8
      at (Some number) = refl
      at None = refl
  top_level kind binders = refl

  top_empty : (kind : SpelledKind) (binders : Binders) → is_empty_kind (kind_of kind binders) ≡ is_empty_kind kind
  top_empty (one.Call word arguments) binders = at (english word)
    where
      at : (found : Option ℕ) → is_empty_kind (bound_call english scene scope found word (map (under english scene scope) arguments) binders) ≡ false
      at (Some number) = refl
      at None = refl
  top_empty kind binders = refl

  top_callable : (kind : SpelledKind) (binders : Binders) → is_callable_kind (kind_of kind binders) ≡ is_callable_kind kind
  top_callable (one.Call word arguments) binders = at (english word)
    where
      at : (found : Option ℕ) → is_callable_kind (bound_call english scene scope found word (map (under english scene scope) arguments) binders) ≡ true
      at (Some number) = refl
      at None = refl
  top_callable kind binders = refl

  node_top : (kind : SpelledKind) (binders : Binders) → SameTop (bound_node (kind_of kind binders)) (node kind)
  node_top kind binders = record {
    level = bound_level-node (kind_of kind binders) ∙ (top_level kind binders ∙ sym (level-node kind));
    empty = bound_empty-node (kind_of kind binders) ∙ (top_empty kind binders ∙ sym (empty-node kind));
    callable = bound_callable-node (kind_of kind binders) ∙ (top_callable kind binders ∙ sym (callable-node kind));
  }

  pub bound_top : (t : Spelled) (binders : Binders) → SameTop (bound_under english scene scope t binders) t
  bound_top t binders =
      let at = node_of t in
      subst (λ (u : Spelled). SameTop (bound_under english scene scope u binders) u) at.1
      (subst (λ (u : Bound). SameTop u (node at.0)) (sym (bound-node english scene scope at.0 binders)) (node_top at.0 binders))

  -- all through
  abbrev Sized : Spelled → Type 0
  Sized t = (binders : Binders) → SameSize (bound_under english scene scope t binders) t

  abbrev PairSized : Pair → Type 0
  PairSized pair = Sized pair.value

  all_sized : (ts : List Spelled) (binders : Binders) → AllByRecursion Sized ts → SameSizes (all_bound (map (under english scene scope) ts) binders) ts
  all_sized [] binders h = record { height = refl; brackets = refl }
  all_sized (t ∷ ts) binders h =
      let more = all_sized ts binders h.1 in record { height = ap₂ ◌∷◌ (h.0 binders).height more.height; brackets = ap₂ ◌∷◌ (h.0 binders).brackets more.brackets }

  pairs_sized : (ps : List Pair) (binders : Binders) → AllByRecursion PairSized ps → SamePairSizes (pairs_bound (map (pair_binds english scene scope) ps) binders) ps
  pairs_sized [] binders h = record { height = refl; brackets = refl }
  pairs_sized (p ∷ ps) binders h =
      let more = pairs_sized ps (binders ++ p.variable ∷ []) h.1 in record { height = ap₂ ◌∷◌ (h.0 binders).height more.height; brackets = ap₂ ◌∷◌ (h.0 binders).brackets more.brackets }

  step_sized : (kind : SpelledKind) (binders : Binders) → OfChildren Sized PairSized kind → BoundLike (kind_of kind binders) kind
  step_sized (one.Paren x) binders h = record { height = ap (λ n. n + 1) (h binders).height; brackets = ap (λ n. n + 1) (h binders).brackets }
  step_sized (one.Prefix sign x) binders h = record { height = ap (λ n. n + 1) (h binders).height; brackets = (h binders).brackets }
  step_sized (one.Percent x) binders h = record { height = ap (λ n. n + 1) (h binders).height; brackets = (h binders).brackets }
  step_sized (one.Spill x) binders h = record { height = ap (λ n. n + 1) (h binders).height; brackets = (h binders).brackets }
  step_sized (one.Binary sign a b) binders h = record {
    height = ap₂ (λ m n. max m n + 1) (h.0 binders).height (h.1 binders).height;
    brackets = ap₂ max (h.0 binders).brackets (h.1 binders).brackets;
  }
  step_sized (one.Fun number arguments) binders h =
      let all = all_sized arguments binders h in record { height = ap (λ ns. greatest ns + 1) all.height; brackets = ap (λ ns. greatest ns + 1) all.brackets }
  step_sized (one.Call word arguments) binders h = at (english word)
    where
      at : (found : Option ℕ) → BoundLike (bound_call english scene scope found word (map (under english scene scope) arguments) binders) (one.Call word arguments)
      at (Some number) = let all = all_sized arguments binders h in record { height = ap (λ ns. greatest ns + 1) all.height; brackets = ap (λ ns. greatest ns + 1) all.brackets }
      at None = let all = all_sized arguments binders h in record { height = ap (λ ns. greatest ns + 1) all.height; brackets = ap (λ ns. greatest ns + 1) all.brackets }
  step_sized (one.Let pairs body) binders h =
      let all = pairs_sized pairs binders h.0 in
      let last = h.1 (with_variables (map (pair_binds english scene scope) pairs) binders) in record {
        height = ap₂ (λ ns n. max (greatest ns) n + 1) all.height last.height;
        brackets = ap₂ (λ ns n. max (greatest ns) n + 1) all.brackets last.brackets;
      }
  step_sized (one.Lambda parameters body) binders h =
      let last = h (with_parameters parameters binders) in record { height = ap (λ n. n + 1) last.height; brackets = ap (λ n. n + 1) last.brackets }
  step_sized (one.Apply x arguments) binders h =
      let all = all_sized arguments binders h.1 in record {
        height = ap₂ (λ n ns. max n (greatest ns) + 1) (h.0 binders).height all.height;
        brackets = ap₂ (λ n ns. max n (greatest ns + 1)) (h.0 binders).brackets all.brackets;
      }
  step_sized kind binders h = record { height = refl; brackets = refl }

  node_sized : (kind : SpelledKind) → OfChildren Sized PairSized kind → Sized (node kind)
  node_sized kind h binders =
      let step = step_sized kind binders h in
      subst (λ (u : Bound). SameSize u (node kind)) (sym (bound-node english scene scope kind binders)) (record {
        height = bound_height-node (kind_of kind binders) ∙ (step.height ∙ sym (height-node kind));
        brackets = bound_brackets-node (kind_of kind binders) ∙ (step.brackets ∙ sym (brackets-node kind));
      })

  pub bound_size : (t : Spelled) (binders : Binders) → SameSize (bound_under english scene scope t binders) t
  bound_size = by_nodes Sized PairSized node_sized (λ variable value h. h)

  -- lists of arguments are left out alike
  pub bound_arguments : (ts : List Spelled) (binders : Binders) → is_argument_list (all_bound (map (under english scene scope) ts) binders) ≡ is_argument_list ts
  bound_arguments [] binders = refl
  bound_arguments (t ∷ []) binders = ap not (bound_top t binders).empty
  bound_arguments (t ∷ u ∷ ts) binders = refl

module _ (sheet_text : ℕ → List ℕ) (key_text : NameKey → List ℕ) where
  abbrev spell : Bound → Spelled
  spell = spelled_with sheet_text key_text

  abbrev spelled_of : BoundKind → SpelledKind
  spelled_of kind = spelled_kind sheet_text key_text (children_spelled sheet_text key_text kind)

  spelled_level : (kind : BoundKind) → kind_level (spelled_of kind) ≡ kind_level kind
  spelled_level (one.Num units) = refl
  spelled_level kind = refl

  spelled_empty : (kind : BoundKind) → is_empty_kind (spelled_of kind) ≡ is_empty_kind kind
  spelled_empty one.Empty = refl
  spelled_empty kind = refl

  spelled_callable : (kind : BoundKind) → is_callable_kind (spelled_of kind) ≡ is_callable_kind kind
  spelled_callable (one.Paren x) = refl
  spelled_callable kind = refl

  spelled_node_top : (kind : BoundKind) → SameTop (node (spelled_of kind)) (bound_node kind)
  spelled_node_top kind = record {
    level = level-node (spelled_of kind) ∙ (spelled_level kind ∙ sym (bound_level-node kind));
    empty = empty-node (spelled_of kind) ∙ (spelled_empty kind ∙ sym (bound_empty-node kind));
    callable = callable-node (spelled_of kind) ∙ (spelled_callable kind ∙ sym (bound_callable-node kind));
  }

  pub spelled_top : (t : Bound) → SameTop (spelled_with sheet_text key_text t) t
  spelled_top t =
      let at = bound_node_of t in
      subst (λ (u : Bound). SameTop (spelled_with sheet_text key_text u) u) at.1
      (subst (λ (u : Spelled). SameTop u (bound_node at.0)) (sym (spelled-node sheet_text key_text at.0)) (spelled_node_top at.0))

  abbrev SpelledSized : Bound → Type 0
  SpelledSized t = SameSize (spelled_with sheet_text key_text t) t

  abbrev SpelledPairSized : BoundPair → Type 0
  SpelledPairSized pair = SpelledSized pair.value

  all_spelled : (ts : List Bound) → AllByRecursion SpelledSized ts → SameSizes (map spell ts) ts
  all_spelled [] h = record { height = refl; brackets = refl }
  all_spelled (t ∷ ts) h =
      let more = all_spelled ts h.1 in record { height = ap₂ ◌∷◌ h.0.height more.height; brackets = ap₂ ◌∷◌ h.0.brackets more.brackets }

  pairs_spelled : (ps : List BoundPair) → AllByRecursion SpelledPairSized ps → SamePairSizes (map (pair_spelled sheet_text key_text) ps) ps
  pairs_spelled [] h = record { height = refl; brackets = refl }
  pairs_spelled (p ∷ ps) h =
      let more = pairs_spelled ps h.1 in record { height = ap₂ ◌∷◌ h.0.height more.height; brackets = ap₂ ◌∷◌ h.0.brackets more.brackets }

  abbrev SpelledLike : SpelledKind → BoundKind → Type 0
  SpelledLike kind like = SameStep (with_numbers height kind) (bound_numbers height like) (with_numbers open_brackets kind) (bound_numbers open_brackets like)

  spelled_step_sized : (kind : BoundKind) → OfChildren SpelledSized SpelledPairSized kind → SpelledLike (spelled_of kind) kind
  spelled_step_sized (one.Paren x) h = record { height = ap (λ n. n + 1) h.height; brackets = ap (λ n. n + 1) h.brackets }
  spelled_step_sized (one.Prefix sign x) h = record { height = ap (λ n. n + 1) h.height; brackets = h.brackets }
  spelled_step_sized (one.Percent x) h = record { height = ap (λ n. n + 1) h.height; brackets = h.brackets }
  spelled_step_sized (one.Spill x) h = record { height = ap (λ n. n + 1) h.height; brackets = h.brackets }
  spelled_step_sized (one.Binary sign a b) h = record {
    height = ap₂ (λ m n. max m n + 1) h.0.height h.1.height;
    brackets = ap₂ max h.0.brackets h.1.brackets;
  }
  spelled_step_sized (one.Fun number arguments) h =
      let all = all_spelled arguments h in record { height = ap (λ ns. greatest ns + 1) all.height; brackets = ap (λ ns. greatest ns + 1) all.brackets }
  spelled_step_sized (one.Call word arguments) h =
      let all = all_spelled arguments h in record { height = ap (λ ns. greatest ns + 1) all.height; brackets = ap (λ ns. greatest ns + 1) all.brackets }
  spelled_step_sized (one.Let pairs body) h =
      let all = pairs_spelled pairs h.0 in record {
        height = ap₂ (λ ns n. max (greatest ns) n + 1) all.height h.1.height;
        brackets = ap₂ (λ ns n. max (greatest ns) n + 1) all.brackets h.1.brackets;
      }
  spelled_step_sized (one.Lambda parameters body) h = record { height = ap (λ n. n + 1) h.height; brackets = ap (λ n. n + 1) h.brackets }
  spelled_step_sized (one.Apply x arguments) h =
      let all = all_spelled arguments h.1 in record {
        height = ap₂ (λ n ns. max n (greatest ns) + 1) h.0.height all.height;
        brackets = ap₂ (λ n ns. max n (greatest ns + 1)) h.0.brackets all.brackets;
      }
  spelled_step_sized kind h = record { height = refl; brackets = refl }

  spelled_node_sized : (kind : BoundKind) → OfChildren SpelledSized SpelledPairSized kind → SpelledSized (bound_node kind)
  spelled_node_sized kind h =
      let step = spelled_step_sized kind h in
      subst (λ (u : Spelled). SameSize u (bound_node kind)) (sym (spelled-node sheet_text key_text kind)) (record {
        height = height-node (spelled_of kind) ∙ (step.height ∙ sym (bound_height-node kind));
        brackets = brackets-node (spelled_of kind) ∙ (step.brackets ∙ sym (bound_brackets-node kind));
      })

  pub spelled_size : (t : Bound) → SameSize (spelled_with sheet_text key_text t) t
  spelled_size = by_nodes SpelledSized SpelledPairSized spelled_node_sized (λ variable value h. h)

  pub spelled_arguments : (ts : List Bound) → is_argument_list (map (spelled_with sheet_text key_text) ts) ≡ is_argument_list ts
  spelled_arguments [] = refl
  spelled_arguments (t ∷ []) = ap not (spelled_top t).empty
  spelled_arguments (t ∷ u ∷ ts) = refl
