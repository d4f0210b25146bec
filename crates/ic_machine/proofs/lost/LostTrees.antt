-- A formula with its lost references: a fold of it, its spelling, what it binds to, and where it clashes.
use mathlib.Core.Path.{fun_ext}
use Rattle.std.proofs.Common.{◌≡◌, ◌∙◌, refl, sym, ap, ap₂, ℕ, ℤ, List, [], ◌∷◌, ◌++◌, map, Bool, true, false, Option, Some, None, if◌then◌else◌}
use Rattle.ic_laws.specs.Binding.{Binders, Binds, BindsPair, bound, all_bound, bound_call, bound_kind, bound_pair_of, bound_pair_step, bound_sheet, bound_step, bound_under, bound_word, pairs_bound, spelled_kind, spelled_pair_step, spelled_sheet, spelled_step, spelled_with}
use Rattle.ic_laws.specs.Clash.{clashes_step, clashes_with, pair_clashes}
use Rattle.ic_laws.specs.Parse.{Pair}
use Rattle.ic_laws.specs.Position.{is_inside}
use Rattle.ic_laws.specs.Tree.{Bound, Kind, Spelled, brackets_step, height, height_step, open_brackets}
use Rattle.ic_laws.specs.declared.reference.Place.{Place}
use Rattle.ic_laws.specs.declared.scene.Scene.{Scene}
use Rattle.ic_laws.specs.declared.tree.Error.TheVariants as errors
use Rattle.ic_laws.specs.declared.tree.LetPair.{LetPair, fold-LetPair, fold-roll-LetPair, roll-LetPair}
use Rattle.ic_laws.specs.declared.tree.NameKey.{NameKey}
use Rattle.ic_laws.specs.declared.tree.NameMention.{NameMention}
use Rattle.ic_laws.specs.declared.tree.SheetMention.{SheetMention}
use Rattle.ic_laws.specs.declared.tree.Tree.{Tree, Tree-F, fold-Tree, fold-roll-Tree, map-Tree, roll-Tree}
use Rattle.ic_laws.specs.declared.tree.Tree.TheOpen.{LetPair-F}
use Rattle.ic_laws.specs.declared.tree.Tree.TheOpen as one
use Rattle.ic_machine.specs.Lost.{lost_kind, with_lost}
use Rattle.ic_machine.proofs.lost.FoldFusion.{fused}

-- a reference, and the error value in its place
pub by_place : {S W A B : Type 0} (row column : ℤ) (P : Tree-F S W A B → Type 0) (sheet : S) (place : Place) → P (one.Reference sheet place) → P (one.Err errors.REF) → P (lost_kind row column (one.Reference sheet place))
by_place {S} {W} {A} {B} row column P sheet place here gone = at (is_inside place row column)
  where
    at : (t : Bool) → P (if t then one.Reference sheet place else one.Err errors.REF)
    at true = here
    at false = gone

module _ (row column : ℤ) where
  lost_natural : {S W A B A2 B2 : Type 0} (h : A → A2) (hp : B → B2) (kind : Tree-F S W A B) → map-Tree S W A B A2 B2 h hp (lost_kind row column kind) ≡ lost_kind row column (map-Tree S W A B A2 B2 h hp kind)
  lost_natural {S} {W} {A} {B} {A2} {B2} h hp (one.Reference sheet place) = at (is_inside place row column)
    where
      at : (t : Bool) → map-Tree S W A B A2 B2 h hp (if t then one.Reference sheet place else one.Err errors.REF) ≡ (if t then one.Reference sheet place else one.Err errors.REF)
      at true = refl
      at false = refl
  lost_natural h hp kind = refl

  module _ {S W : Type 0} where
    abbrev lost : Tree S W → Tree S W
    lost t = with_lost row column t

    abbrev pub lost_pair : LetPair S W → LetPair S W
    lost_pair pair = roll-LetPair S W (record { variable = pair.variable; value = with_lost row column pair.value })

    abbrev pub children_lost : Kind S W → Kind S W
    children_lost kind = map-Tree S W (Tree S W) (LetPair S W) (Tree S W) (LetPair S W) (with_lost row column) lost_pair kind

    abbrev rolled : Tree-F S W (Tree S W) (LetPair S W) → Tree S W
    rolled kind = roll-Tree S W (lost_kind row column kind)

    abbrev pair_rolled : LetPair-F S W (Tree S W) (LetPair S W) → LetPair S W
    pair_rolled pair = roll-LetPair S W (record { variable = pair.variable; value = pair.value })

    pub lost-node : (kind : Kind S W) → with_lost row column (roll-Tree S W kind) ≡ roll-Tree S W (lost_kind row column (children_lost kind))
    lost-node kind =
        fold-roll-Tree S W (Tree S W) (LetPair S W) rolled pair_rolled kind
        ∙ ap (λ (g : LetPair S W → LetPair S W). rolled (map-Tree S W (Tree S W) (LetPair S W) (Tree S W) (LetPair S W) lost g kind))
        (fun_ext (λ pair. fold-roll-LetPair S W (Tree S W) (LetPair S W) rolled pair_rolled (record { variable = pair.variable; value = pair.value })))

    -- a fold of it is one of the tree, whose references are lost as its steps are made
    module _ {A B : Type 0} (step : Tree-F S W A B → A) (pair_step : LetPair-F S W A B → B) where
      pub fold_lost : (t : Tree S W) → fold-Tree S W A B step pair_step (with_lost row column t) ≡ fold-Tree S W A B (λ kind. step (lost_kind row column kind)) pair_step t
      fold_lost =
          fused rolled pair_rolled (λ kind. step (lost_kind row column kind)) pair_step (fold-Tree S W A B step pair_step) (fold-LetPair S W A B step pair_step)
          (λ kind. fold-roll-Tree S W A B step pair_step (lost_kind row column kind) ∙ ap step (lost_natural (fold-Tree S W A B step pair_step) (fold-LetPair S W A B step pair_step) kind))
          (λ variable value. fold-roll-LetPair S W A B step pair_step (record { variable = variable; value = value }))

      -- and the same, where a lost reference counts as one
      pub fold_same : ((sheet : S) (place : Place) → step (one.Err errors.REF) ≡ step (one.Reference sheet place)) → (t : Tree S W) → fold-Tree S W A B step pair_step (with_lost row column t) ≡ fold-Tree S W A B step pair_step t
      fold_same like t = fold_lost t ∙ ap (λ (s : Tree-F S W A B → A). fold-Tree S W A B s pair_step t) (fun_ext same)
        where
          same : (kind : Tree-F S W A B) → step (lost_kind row column kind) ≡ step kind
          same (one.Reference sheet place) = by_place row column (λ (k : Tree-F S W A B). step k ≡ step (one.Reference sheet place)) sheet place refl (like sheet place)
          same kind = refl

    pub height_lost : (t : Tree S W) → height (with_lost row column t) ≡ height t
    height_lost = fold_same height_step (λ pair. pair.value) (λ sheet place. refl)

    pub brackets_lost : (t : Tree S W) → open_brackets (with_lost row column t) ≡ open_brackets t
    brackets_lost = fold_same brackets_step (λ pair. pair.value) (λ sheet place. refl)

  -- a formula is written with its lost references as it is written, and then they are lost
  pub spelled_lost : (sheet_text : ℕ → List ℕ) (key_text : NameKey → List ℕ) (t : Bound) → spelled_with sheet_text key_text (with_lost row column t) ≡ with_lost row column (spelled_with sheet_text key_text t)
  spelled_lost sheet_text key_text t =
      fold_lost (spelled_step sheet_text key_text) (spelled_pair_step sheet_text key_text) t
      ∙ sym
      (fused (spelled_step sheet_text key_text) (spelled_pair_step sheet_text key_text) (λ kind. spelled_step sheet_text key_text (lost_kind row column kind)) (spelled_pair_step sheet_text key_text)
      (with_lost row column) lost_pair (λ kind. lost-node (spelled_kind sheet_text key_text kind) ∙ ap (λ k. roll-Tree (Option (List ℕ)) (List ℕ) k) (same kind)) (λ variable value. refl) t)
    where
      same : (kind : Tree-F SheetMention NameMention Spelled Pair)
          → lost_kind row column (children_lost (spelled_kind sheet_text key_text kind)) ≡ spelled_kind sheet_text key_text (lost_kind row column (map-Tree SheetMention NameMention Spelled Pair Spelled Pair (with_lost row column) lost_pair kind))
      same (one.Reference sheet place) = at (is_inside place row column)
        where
          at : (t : Bool) → ◌≡◌ {A = Kind (Option (List ℕ)) (List ℕ)} (if t then one.Reference (spelled_sheet sheet_text sheet) place else one.Err errors.REF) (spelled_kind sheet_text key_text (if t then one.Reference sheet place else one.Err errors.REF))
          at true = refl
          at false = refl
      same kind = refl

  -- so is it bound
  module _ (english : List ℕ → Option ℕ) (scene : Scene) (scope : Option ℕ) where
    abbrev lost_binds : Binds → Binds
    lost_binds b binders = with_lost row column (b binders)

    abbrev lost_binds_pair : BindsPair → BindsPair
    lost_binds_pair pair = record { variable = pair.variable; value = lost_binds pair.value }

    all_lost : (parts : List Binds) (binders : Binders) → map (with_lost row column) (all_bound parts binders) ≡ all_bound (map lost_binds parts) binders
    all_lost [] binders = refl
    all_lost (part ∷ parts) binders = ap (λ (ts : List Bound). with_lost row column (part binders) ∷ ts) (all_lost parts binders)

    pairs_lost : (pairs : List BindsPair) (binders : Binders) → map lost_pair (pairs_bound pairs binders) ≡ pairs_bound (map lost_binds_pair pairs) binders
    pairs_lost [] binders = refl
    pairs_lost (pair ∷ pairs) binders = ap (λ (ps : List (LetPair SheetMention NameMention)). bound_pair_of pair.variable (with_lost row column (pair.value binders)) ∷ ps) (pairs_lost pairs (binders ++ pair.variable ∷ []))

    same_variables : (pairs : List BindsPair) → map (λ (pair : BindsPair). pair.variable) (map lost_binds_pair pairs) ≡ map (λ (pair : BindsPair). pair.variable) pairs
    same_variables [] = refl
    same_variables (pair ∷ pairs) = ap (λ (names : List (List ℕ)). pair.variable ∷ names) (same_variables pairs)

    abbrev BoundKind : Type 0
    BoundKind = Kind SheetMention NameMention

    bound_same : (kind : Tree-F (Option (List ℕ)) (List ℕ) Binds BindsPair) (binders : Binders)
        → lost_kind row column (children_lost (bound_kind english scene scope kind binders)) ≡ bound_kind english scene scope (lost_kind row column (map-Tree (Option (List ℕ)) (List ℕ) Binds BindsPair Binds BindsPair lost_binds lost_binds_pair kind)) binders
    bound_same (one.Reference sheet place) binders = at (is_inside place row column)
      where
        at : (t : Bool) → ◌≡◌ {A = BoundKind} (if t then one.Reference (bound_sheet scene sheet) place else one.Err errors.REF) (bound_kind english scene scope (if t then one.Reference sheet place else one.Err errors.REF) binders)
        at true = refl
        at false = refl
    bound_same (one.Fun number arguments) binders = ap (λ (ts : List Bound). let k : BoundKind = one.Fun number ts in k) (all_lost arguments binders)
    bound_same (one.Call word arguments) binders = at (english word)
      where
        at : (found : Option ℕ) → lost_kind row column (children_lost (bound_call english scene scope found word arguments binders)) ≡ bound_call english scene scope found word (map lost_binds arguments) binders
        at (Some number) = ap (λ (ts : List Bound). let k : BoundKind = one.Fun number ts in k) (all_lost arguments binders)
        at None = ap (λ (ts : List Bound). let k : BoundKind = one.Call (bound_word scene scope binders word) ts in k) (all_lost arguments binders)
    bound_same (one.Let pairs body) binders =
        ap₂ (λ (ps : List (LetPair SheetMention NameMention)) (t : Bound). let k : BoundKind = one.Let ps t in k) (pairs_lost pairs binders)
        (ap (λ (names : List (List ℕ)). with_lost row column (body (binders ++ names))) (sym (same_variables pairs)))
    bound_same (one.Apply x arguments) binders = ap (λ (ts : List Bound). let k : BoundKind = one.Apply (with_lost row column (x binders)) ts in k) (all_lost arguments binders)
    bound_same kind binders = refl

    bound_under_lost : (u : Spelled) → bound_under english scene scope (with_lost row column u) ≡ lost_binds (bound_under english scene scope u)
    bound_under_lost u =
        fold_lost (bound_step english scene scope) (bound_pair_step english scene scope) u
        ∙ sym
        (fused (bound_step english scene scope) (bound_pair_step english scene scope) (λ kind. bound_step english scene scope (lost_kind row column kind)) (bound_pair_step english scene scope)
        lost_binds lost_binds_pair
        (λ kind. fun_ext (λ binders. lost-node (bound_kind english scene scope kind binders) ∙ ap (λ (k : BoundKind). roll-Tree SheetMention NameMention k) (bound_same kind binders))) (λ variable value. refl) u)

    pub bound_lost : (u : Spelled) → bound english scene scope (with_lost row column u) ≡ with_lost row column (bound english scene scope u)
    bound_lost u = ap (λ (b : Binds). b []) (bound_under_lost u)

  -- it clashes where it did
  pub clash_lost : (is_boolean is_function : List ℕ → Bool) (t : Bound) → clashes_with is_boolean is_function (with_lost row column t) ≡ clashes_with is_boolean is_function t
  clash_lost is_boolean is_function = fold_same (clashes_step is_boolean is_function) (pair_clashes is_boolean is_function) (λ sheet place. refl)
