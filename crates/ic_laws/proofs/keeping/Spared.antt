-- Formulas that a change can't change.
use mathlib.Core.Path.{fun_ext}
use Rattle.std.proofs.Common.{◌≡◌, ℕ, List, [], ◌∷◌, map, Bool, false, Option, refl, sym, ap, ◌∙◌}
use Rattle.std.specs.List.{AllByRecursion, list_any}
use Rattle.std.proofs.lemmas.Bool.{or_parts}
use Rattle.ic_laws.proofs.binding.Again.{BoundKind, bound_node}
use Rattle.ic_laws.proofs.binding.Induction.{EveryPair, OfChildren, by_nodes, every_below, every_here, every_made, every_value}
use Rattle.ic_laws.specs.Binding.{BoundPair, bound_pair_of}
use Rattle.ic_laws.specs.Changes.{Change, IsSpared, NoneDanglesBy, changes_local, changes_sheet, changes_tree, changes_word, dangles_by, sheet_named}
use Rattle.ic_laws.specs.Mentions.{AllMentions, OfMentions, some_mention, some_step}
use Rattle.ic_laws.specs.Tree.{Bound}
use Rattle.ic_laws.specs.declared.scene.Scene.{Scene}
use Rattle.ic_laws.specs.declared.tree.LetPair.{every_made-LetPair, fold-roll-LetPair}
use Rattle.ic_laws.specs.declared.tree.NameMention.{NameMention}
use Rattle.ic_laws.specs.declared.tree.SheetMention.{SheetMention}
use Rattle.ic_laws.specs.declared.tree.Tree.{fold-roll-Tree, map-Tree}
use Rattle.ic_laws.specs.declared.tree.Tree.TheOpen as one

-- facts of each mention that follow from facts of each mention
module _ (P Q : SheetMention → Type 0) (F G : NameMention → Type 0) (L M : SheetMention → NameMention → Type 0) (of_sheet : (m : SheetMention) → P m → Q m) (of_word : (m : NameMention) → F m → G m) (of_local : (s : SheetMention) (m : NameMention) → L s m → M s m) where
  abbrev Weaker : Bound → Type 0
  Weaker t = AllMentions P F L t → AllMentions Q G M t

  abbrev OfPair : (SheetMention → Type 0) → (NameMention → Type 0) → (SheetMention → NameMention → Type 0) → BoundPair → Type 0
  OfPair P F L pair = EveryPair (OfMentions P F L) (λ p. Unit {0}) pair

  abbrev PairWeaker : BoundPair → Type 0
  PairWeaker pair = OfPair P F L pair → OfPair Q G M pair

  here : (kind : BoundKind) → OfMentions P F L kind → OfMentions Q G M kind
  here (one.Reference sheet place) h = of_sheet sheet h
  here (one.Local sheet word) h = (of_sheet sheet h.0, of_local sheet word h.1)
  here (one.Word word) h = of_word word h
  here (one.Call word arguments) h = of_word word h
  here kind h = tt

  all : {X : Type 0} (A B : X → Type 0) → (xs : List X) → AllByRecursion (λ x. A x → B x) xs → AllByRecursion A xs → AllByRecursion B xs
  all A B [] f h = tt
  all A B (x ∷ xs) f h = (f.0 h.0, all A B xs f.1 h.1)

  below : (kind : BoundKind) → OfChildren Weaker PairWeaker kind → OfChildren (AllMentions P F L) (OfPair P F L) kind → OfChildren (AllMentions Q G M) (OfPair Q G M) kind
  below (one.Paren x) f h = f h
  below (one.Prefix sign x) f h = f h
  below (one.Percent x) f h = f h
  below (one.Spill x) f h = f h
  below (one.Binary sign a b) f h = (f.0 h.0, f.1 h.1)
  below (one.Fun number arguments) f h = all (AllMentions P F L) (AllMentions Q G M) arguments f h
  below (one.Call word arguments) f h = all (AllMentions P F L) (AllMentions Q G M) arguments f h
  below (one.Let pairs body) f h = (all (OfPair P F L) (OfPair Q G M) pairs f.0 h.0, f.1 h.1)
  below (one.Lambda parameters body) f h = f h
  below (one.Apply x arguments) f h = (f.0 h.0, all (AllMentions P F L) (AllMentions Q G M) arguments f.1 h.1)
  below kind f h = tt

  pub mentions_weaker : (t : Bound) → AllMentions P F L t → AllMentions Q G M t
  mentions_weaker =
      by_nodes Weaker PairWeaker
      (λ kind f h. every_made (OfMentions Q G M) (λ p. Unit {0}) kind (here kind (every_here (OfMentions P F L) (λ p. Unit {0}) kind h)) (below kind f (every_below (OfMentions P F L) (λ p. Unit {0}) kind h)))
      (λ variable value f h.
      let inside : AllMentions Q G M value = f (every_value (OfMentions P F L) (λ p. Unit {0}) (bound_pair_of variable value) h) in
      every_made-LetPair SheetMention NameMention (OfMentions Q G M) (λ p. Unit {0}) (record { variable = variable; value = value }) (record { variable = variable; value = (value, inside) }) refl tt)

-- where no mention passes a test, each fails it
module _ (is_sheet : SheetMention → Bool) (is_word : NameMention → Bool) (is_local : SheetMention → NameMention → Bool) where
  abbrev some : Bound → Bool
  some = some_mention is_sheet is_word is_local

  abbrev some_of_pair : BoundPair → Bool
  some_of_pair pair = some pair.value

  some-node : (kind : BoundKind) → some (bound_node kind) ≡ some_step is_sheet is_word is_local (map-Tree SheetMention NameMention Bound BoundPair Bool Bool some some_of_pair kind)
  some-node kind =
      fold-roll-Tree SheetMention NameMention Bool Bool (some_step is_sheet is_word is_local) (λ pair. pair.value) kind
      ∙ ap (λ (g : BoundPair → Bool). some_step is_sheet is_word is_local (map-Tree SheetMention NameMention Bound BoundPair Bool Bool some g kind))
      (fun_ext (λ pair. fold-roll-LetPair SheetMention NameMention Bool Bool (some_step is_sheet is_word is_local) (λ p. p.value) (record { variable = pair.variable; value = pair.value })))

  abbrev FailSheet : SheetMention → Type 0
  FailSheet m = is_sheet m ≡ false

  abbrev FailWord : NameMention → Type 0
  FailWord m = is_word m ≡ false

  abbrev FailLocal : SheetMention → NameMention → Type 0
  FailLocal s m = is_local s m ≡ false

  abbrev Fail : Bound → Type 0
  Fail t = AllMentions FailSheet FailWord FailLocal t

  abbrev FailPair : BoundPair → Type 0
  FailPair pair = EveryPair (OfMentions FailSheet FailWord FailLocal) (λ p. Unit {0}) pair

  abbrev Fails : Bound → Type 0
  Fails t = some t ≡ false → Fail t

  abbrev PairFails : BoundPair → Type 0
  PairFails pair = some_of_pair pair ≡ false → FailPair pair

  all_fail : {X : Type 0} (test : X → Bool) (F : X → Type 0) (xs : List X) → AllByRecursion (λ x. test x ≡ false → F x) xs → list_any (λ b. b) (map test xs) ≡ false → AllByRecursion F xs
  all_fail test F [] h e = tt
  all_fail test F (x ∷ xs) h e = let parts = or_parts (test x) _ e in (h.0 parts.0, all_fail test F xs h.1 parts.1)

  abbrev step_of : BoundKind → Bool
  step_of kind = some_step is_sheet is_word is_local (map-Tree SheetMention NameMention Bound BoundPair Bool Bool some some_of_pair kind)

  kind_fails : (kind : BoundKind) → OfChildren Fails PairFails kind → step_of kind ≡ false → OfMentions FailSheet FailWord FailLocal kind × OfChildren Fail FailPair kind
  kind_fails (one.Num units) h e = (tt, tt)
  kind_fails (one.Str text) h e = (tt, tt)
  kind_fails (one.Bool value) h e = (tt, tt)
  kind_fails (one.Err code) h e = (tt, tt)
  kind_fails (one.Reference sheet place) h e = (e, tt)
  kind_fails (one.Local sheet word) h e = let parts = or_parts (is_sheet sheet) (is_local sheet word) e in ((parts.0, parts.1), tt)
  kind_fails (one.Word word) h e = (e, tt)
  kind_fails one.Empty h e = (tt, tt)
  kind_fails (one.Paren x) h e = (tt, h e)
  kind_fails (one.Prefix sign x) h e = (tt, h e)
  kind_fails (one.Percent x) h e = (tt, h e)
  kind_fails (one.Spill x) h e = (tt, h e)
  kind_fails (one.Binary sign a b) h e = let parts = or_parts (some a) (some b) e in (tt, (h.0 parts.0, h.1 parts.1))
  kind_fails (one.Fun number arguments) h e = (tt, all_fail some Fail arguments h e)
  kind_fails (one.Call word arguments) h e = let parts = or_parts (is_word word) _ e in (parts.0, all_fail some Fail arguments h parts.1)
  kind_fails (one.Let pairs body) h e = let parts = or_parts _ (some body) e in (tt, (all_fail some_of_pair FailPair pairs h.0 parts.0, h.1 parts.1))
  kind_fails (one.Lambda parameters body) h e = (tt, h e)
  kind_fails (one.Apply x arguments) h e = let parts = or_parts (some x) _ e in (tt, (h.0 parts.0, all_fail some Fail arguments h.1 parts.1))
  kind_fails (one.Array rows) h e = (tt, tt)

  pub none_passes : (t : Bound) → some_mention is_sheet is_word is_local t ≡ false → AllMentions (λ m. is_sheet m ≡ false) (λ m. is_word m ≡ false) (λ s m. is_local s m ≡ false) t
  none_passes =
      by_nodes Fails PairFails
      (λ kind h e. let both = kind_fails kind h (sym (some-node kind) ∙ e) in every_made (OfMentions FailSheet FailWord FailLocal) (λ p. Unit {0}) kind both.0 both.1)
      (λ variable value h e. every_made-LetPair SheetMention NameMention (OfMentions FailSheet FailWord FailLocal) (λ p. Unit {0}) (record { variable = variable; value = value }) (record { variable = variable; value = (value, h e) }) refl tt)

-- so a formula that doesn't pass the test of a change has no mention that it can change
pub untouched_is_spared : (change : Change) (scope : Option ℕ) (t : Bound) → changes_tree change scope t ≡ false → IsSpared change scope t
untouched_is_spared change scope t e = none_passes (changes_sheet change) (changes_word change scope) (changes_local change) t e

-- where nothing dangles by an agreeing name, a sheet that gets the name changes nothing
pub spared_naming : (scene : Scene) (id : ℕ) (name : List ℕ) (scope : Option ℕ) (t : Bound) → NoneDanglesBy name t → IsSpared (sheet_named scene id name) scope t
spared_naming scene id name scope t h =
    mentions_weaker (λ m. dangles_by name m ≡ false) (λ m. dangles_by name m ≡ false) (λ m. Unit {0}) (λ m. false ≡ false) (λ s m. Unit {0}) (λ s m. false ≡ false) (λ m e. e) (λ m e. refl) (λ s m e. refl) t h
