-- Binding in place: arguments and pairs of which the first are bound and the others stand as they were read.
use Rattle.std.proofs.Common.{◌≡◌, ℕ, suc, ◌+◌, ◌<◌, ◌≤◌, length, take, drop, get_or, set, List, [], ◌∷◌, ◌++◌, map, refl, sym, ap, ap₂, ◌∙◌, append_assoc, arith, Option, Some}
use Rattle.std.proofs.lemmas.List.{append-nil, drop_all, drop_more, get_or_at, length-map, length-take, set_at, take_all}
use Rattle.std.proofs.lemmas.List.Edits.{map_over_more}
use Rattle.std.proofs.lemmas.Option.{get_or_from_slice_get}
use Rattle.std.specs.List.{slice_get}
use Rattle.ic_laws.specs.Binding.{Binders, BindsPair, BoundPair, all_bound, bound_pair_of, bound_under, pair_binds, pairs_bound, with_variables}
use Rattle.ic_laws.specs.Tree.{Bound, Spelled}
use Rattle.ic_laws.specs.declared.scene.Scene.{Scene}
use Rattle.ic_laws.specs.declared.tree.Tree.TheOpen as one
use Rattle.ic_laws.proofs.binding.Again.{BoundKind, bound_node, bound-node, children_spelled, once, spelled-node}
use Rattle.ic_laws.proofs.binding.PairLemmas.{pairs_more, variables_more}
use Rattle.ic_laws.specs.Binding.{spelled_kind}
use Rattle.ic_tree.specs.Typed.{as_typed, no_text, own_name, pair_as_typed}

-- one more item is put in its place
pub put_next : {X : Type 0} (xs ys front : List X) (i : ℕ) (d y : X) → i < length xs → ys ≡ front ++ drop i xs → length front ≡ i → set ys i y ≡ (front ++ y ∷ []) ++ drop (i + 1) xs
put_next xs ys front i d y within half long =
    ap (λ l. set l i y) (half ∙ ap (λ l. front ++ l) (drop_more xs i d within))
    ∙ (set_at front (get_or xs i d) (drop (i + 1) xs) y i long
    ∙ sym (append_assoc front (y ∷ []) (drop (i + 1) xs)))

-- the item that comes next stands as before
pub next_stands : {X : Type 0} (xs ys front : List X) (i : ℕ) (d : X) → i < length xs → ys ≡ front ++ drop i xs → length front ≡ i → get_or ys i d ≡ get_or xs i d
next_stands xs ys front i d within half long =
    ap (λ l. get_or l i d) (half ∙ ap (λ l. front ++ l) (drop_more xs i d within))
    ∙ get_or_at front (get_or xs i d) (drop (i + 1) xs) d i long

module _ (english : List ℕ → Option ℕ) (scene : Scene) (scope : Option ℕ) where
  -- an argument, and a variable of LET, bound
  abbrev pub settled : Binders → Bound → Bound
  settled seen t = bound_under english scene scope (as_typed t) seen

  abbrev pub pair_settles : BoundPair → BindsPair
  pair_settles pair = pair_binds english scene scope (pair_as_typed pair)

  pub all_settled : (ts : List Bound) (seen : Binders) → map (settled seen) ts ≡ all_bound (map (bound_under english scene scope) (map as_typed ts)) seen
  all_settled [] seen = refl
  all_settled (t ∷ ts) seen = ap (λ us. settled seen t ∷ us) (all_settled ts seen)

  pub pairs_settled : (ps : List BoundPair) → map pair_settles ps ≡ map (pair_binds english scene scope) (map pair_as_typed ps)
  pairs_settled [] = refl
  pairs_settled (p ∷ ps) = ap (λ us. pair_settles p ∷ us) (pairs_settled ps)

  pub length-pairs_bound : (ps : List BindsPair) (seen : Binders) → length (pairs_bound ps seen) ≡ length ps
  length-pairs_bound [] seen = refl
  length-pairs_bound (p ∷ ps) seen = ap suc (length-pairs_bound ps (seen ++ p.variable ∷ []))

  -- one more argument is bound
  pub all_step : (xs ys : List Bound) (i : ℕ) (old new : Bound) (seen : Binders) → i < length xs → ys ≡ map (settled seen) (take i xs) ++ drop i xs → slice_get ys i ≡ Some old → new ≡ settled seen old → set ys i new ≡ map (settled seen) (take (i + 1) xs) ++ drop (i + 1) xs
  all_step xs ys i old new seen within half stands is =
      ap (λ t. set ys i t) is ∙ map_over_more (settled seen) xs ys i old within half (sym (get_or_from_slice_get ys i old old stands))

  -- all are
  pub all_done : (xs ys : List Bound) (n : ℕ) (seen : Binders) → length xs ≤ n → ys ≡ map (settled seen) (take n xs) ++ drop n xs → ys ≡ all_bound (map (bound_under english scene scope) (map as_typed xs)) seen
  all_done xs ys n seen le half =
      half ∙ (ap₂ (λ (a b : List Bound). map (settled seen) a ++ b) (take_all n xs le) (drop_all n xs le) ∙ (append-nil _ ∙ all_settled xs seen))

  module _ (xs ys : List BoundPair) (i : ℕ) (old : BoundPair) (seen first : Binders) (within : i < length xs) (half : ys ≡ pairs_bound (map pair_settles (take i xs)) first ++ drop i xs) (seen_is : seen ≡ with_variables (map pair_settles (take i xs)) first) (stands : slice_get ys i ≡ Some old) where
    front : List BoundPair
    front = pairs_bound (map pair_settles (take i xs)) first

    long : length front ≡ i
    unfolding front
    long = length-pairs_bound (map pair_settles (take i xs)) first ∙ (length-map (take i xs) pair_settles ∙ omega (arith, length-take i xs, within))

    same : old ≡ get_or xs i old
    unfolding front
    same = sym (get_or_from_slice_get ys i old old stands) ∙ next_stands xs ys front i old within half long

    -- one more value of a variable is bound
    pub pairs_put : (value : Bound) → value ≡ settled seen old.value → set ys i (bound_pair_of old.variable value) ≡ pairs_bound (map pair_settles (take (i + 1) xs)) first ++ drop (i + 1) xs
    unfolding front
    pairs_put value is =
        put_next xs ys front i old (bound_pair_of old.variable value) within half long
        ∙ ap (λ l. l ++ drop (i + 1) xs)
        (ap (λ p. front ++ p ∷ []) (ap₂ bound_pair_of (ap (λ (p : BoundPair). p.variable) same) (is ∙ ap₂ (λ (p : BoundPair) (s : Binders). settled s p.value) same seen_is))
        ∙ sym (pairs_more pair_settles xs first i old within))

    -- and the variable is seen
    pub pairs_seen : seen ++ old.variable ∷ [] ≡ with_variables (map pair_settles (take (i + 1) xs)) first
    pairs_seen = ap₂ (λ (s : Binders) (v : List ℕ). s ++ v ∷ []) seen_is (ap (λ (p : BoundPair). p.variable) same) ∙ sym (variables_more pair_settles xs first i old within)

  -- all pairs are bound
  pub pairs_done : (xs ys : List BoundPair) (n : ℕ) (first : Binders) → length xs ≤ n → ys ≡ pairs_bound (map pair_settles (take n xs)) first ++ drop n xs → ys ≡ pairs_bound (map (pair_binds english scene scope) (map pair_as_typed xs)) first
  pairs_done xs ys n first le half =
      half ∙ (ap₂ (λ (a b : List BoundPair). pairs_bound (map pair_settles a) first ++ b) (take_all n xs le) (drop_all n xs le) ∙ (append-nil _ ∙ ap (λ ps. pairs_bound ps first) (pairs_settled xs)))

  pub seen_done : (xs : List BoundPair) (n : ℕ) (seen first : Binders) → length xs ≤ n → seen ≡ with_variables (map pair_settles (take n xs)) first → seen ≡ with_variables (map (pair_binds english scene scope) (map pair_as_typed xs)) first
  seen_done xs n seen first le is =
      is ∙ ap (λ ps. with_variables ps first) (ap (λ (a : List BoundPair). map pair_settles a) (take_all n xs le) ∙ pairs_settled xs)

  -- what a node that was only read is bound to
  pub settled_node : (kind : BoundKind) (seen : Binders) → bound_under english scene scope (as_typed (bound_node kind)) seen ≡ bound_node (once english scene scope (spelled_kind no_text own_name (children_spelled no_text own_name kind)) seen)
  settled_node kind seen =
      ap (λ (t : Spelled). bound_under english scene scope t seen) (spelled-node no_text own_name kind)
      ∙ bound-node english scene scope (spelled_kind no_text own_name (children_spelled no_text own_name kind)) seen

  -- what a LET that was only read is bound to
  pub settled_let : (pairs : List BoundPair) (body : Bound) (ps : List BoundPair) (t : Bound) (later seen : Binders) → ps ≡ pairs_bound (map (pair_binds english scene scope) (map pair_as_typed pairs)) seen → later ≡ with_variables (map (pair_binds english scene scope) (map pair_as_typed pairs)) seen
      → t ≡ bound_under english scene scope (as_typed body) later → bound_node (one.Let ps t) ≡ bound_under english scene scope (as_typed (bound_node (one.Let pairs body))) seen
  settled_let pairs body ps t later seen e v f =
      ap₂ (λ (xs : List BoundPair) (u : Bound). bound_node (one.Let xs u)) e (f ∙ ap (λ (s : Binders). bound_under english scene scope (as_typed body) s) v)
      ∙ sym (settled_node (one.Let pairs body) seen)
