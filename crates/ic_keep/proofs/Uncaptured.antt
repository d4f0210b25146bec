-- A formula that an update of a definition doesn't touch, and that stays as it is, has no word that is captured.
use Rattle.std.proofs.Common.{◌≡◌, List, [], ◌∷◌, ◌++◌, map, flat_map, Bool, false, not, ◌||◌, Option, Some, refl, ap, ap₂, ◌∙◌, if◌then◌else◌}
use Rattle.std.specs.Prelude.{bytes_eq}
use Rattle.std.specs.List.{AllByRecursion, list_any, zip}
use Rattle.std.proofs.lemmas.Bool.{or_parts}
use Rattle.std.proofs.lemmas.List.Folds.{list_any-append}
use Rattle.ic_laws.proofs.binding.Again.{BoundKind}
use Rattle.ic_laws.proofs.binding.Induction.{EveryPair, OfChildren, by_nodes, every_below, every_here, every_value}
use Rattle.ic_laws.proofs.keeping.NameChanges.{key_itself}
use Rattle.ic_laws.proofs.keeping.Spared.{none_passes}
use Rattle.ic_laws.specs.Binding.{BoundPair, bound_pair_of}
use Rattle.ic_laws.specs.Keeping.{changed_key}
use Rattle.ic_laws.specs.Mentions.{AllMentions, OfMentions}
use Rattle.ic_laws.specs.Scene.{same_key}
use Rattle.ic_laws.specs.Tree.{Bound}
use Rattle.ic_laws.specs.declared.tree.Formula.{Formula}
use Rattle.ic_laws.specs.declared.tree.Formula.TheVariants as formulas
use Rattle.ic_laws.specs.declared.tree.NameKey.{NameKey}
use Rattle.ic_laws.specs.declared.tree.NameMention.{NameMention}
use Rattle.ic_laws.specs.declared.tree.NameMention.TheVariants as names
use Rattle.ic_laws.specs.declared.tree.Tree.TheOpen as one
use Rattle.ic_keep.proofs.WordWalk.{Words, children_words, words-node}
use Rattle.ic_keep.specs.Capture.{captured, captured_formula, is_captured, words_in, words_step}
use Rattle.ic_keep.specs.Touched.{is_touched, touches, touches_word}

-- a list beside itself
beside_itself : {X : Type 0} (p : X → X → Bool) (xs : List X) → list_any (λ pair. p pair.0 pair.1) (zip xs xs) ≡ list_any (λ x. p x x) xs
beside_itself p [] = refl
beside_itself p (x ∷ xs) = ap (λ b. p x x || b) (beside_itself p xs)

module _ (old new : NameKey) where
  -- a word that stays as it is
  abbrev lost : Option NameMention → Bool
  lost word = is_captured (changed_key old new) word word

  abbrev Untouched : NameMention → Type 0
  Untouched m = touches_word old new m ≡ false

  word_stays : (m : NameMention) → Untouched m → lost (Some m) ≡ false
  word_stays (names.Var word) f = refl
  word_stays (names.Dangling word) f = refl
  word_stays (names.Name key) f =
      ap (λ b. not (same_key key (if b then new else key))) (or_parts (same_key old key) (bytes_eq new.name key.name) f).0 ∙ ap not (key_itself key)

  abbrev Here : BoundKind → Type 0
  Here = OfMentions (λ sheet. false ≡ false) Untouched (λ sheet word. Untouched word)

  abbrev Fails : Bound → Type 0
  Fails t = AllMentions (λ sheet. false ≡ false) Untouched (λ sheet word. Untouched word) t

  abbrev FailsPair : BoundPair → Type 0
  FailsPair pair = EveryPair Here (λ p. Unit {0}) pair

  abbrev none_lost : Words → Type 0
  none_lost words = list_any lost words ≡ false

  both : (xs ys : Words) → none_lost xs → none_lost ys → none_lost (xs ++ ys)
  both xs ys e f = list_any-append lost xs ys ∙ ap₂ (λ a b. a || b) e f

  abbrev Clear : Bound → Type 0
  Clear t = Fails t → none_lost (words_in t)

  abbrev ClearPair : BoundPair → Type 0
  ClearPair pair = FailsPair pair → none_lost (words_in pair.value)

  all_clear : {X : Type 0} (words : X → Words) (F : X → Type 0) (xs : List X) → AllByRecursion (λ x. F x → none_lost (words x)) xs → AllByRecursion F xs → none_lost (flat_map (λ w. w) (map words xs))
  all_clear words F [] h fails = refl
  all_clear words F (x ∷ xs) h fails = both (words x) (flat_map (λ w. w) (map words xs)) (h.0 fails.0) (all_clear words F xs h.1 fails.1)

  arguments_clear : (ts : List Bound) → AllByRecursion Clear ts → AllByRecursion Fails ts → none_lost (flat_map (λ w. w) (map words_in ts))
  arguments_clear = all_clear words_in Fails

  kind_clear : (kind : BoundKind) → OfChildren Clear ClearPair kind → Here kind → OfChildren Fails FailsPair kind → none_lost (words_step (children_words kind))
  kind_clear (one.Local sheet word) h here fails = ap (λ b. b || false) (word_stays word here.1)
  kind_clear (one.Word word) h here fails = ap (λ b. b || false) (word_stays word here)
  kind_clear (one.Paren x) h here fails = h fails
  kind_clear (one.Prefix sign x) h here fails = h fails
  kind_clear (one.Percent x) h here fails = h fails
  kind_clear (one.Spill x) h here fails = h fails
  kind_clear (one.Binary sign a b) h here fails = both (words_in a) (words_in b) (h.0 fails.0) (h.1 fails.1)
  kind_clear (one.Fun number arguments) h here fails = arguments_clear arguments h fails
  kind_clear (one.Call word arguments) h here fails = ap₂ (λ a b. a || b) (word_stays word here) (arguments_clear arguments h fails)
  kind_clear (one.Let pairs body) h here fails =
      both (flat_map (λ w. w) (map (λ (p : BoundPair). words_in p.value) pairs)) (words_in body) (all_clear (λ (p : BoundPair). words_in p.value) FailsPair pairs h.0 fails.0) (h.1 fails.1)
  kind_clear (one.Lambda parameters body) h here fails = h fails
  kind_clear (one.Apply x arguments) h here fails = both (words_in x) (flat_map (λ w. w) (map words_in arguments)) (h.0 fails.0) (arguments_clear arguments h.1 fails.1)
  kind_clear kind h here fails = refl

  clear : (t : Bound) → Clear t
  clear =
      by_nodes Clear ClearPair
      (λ kind h fails. ap (list_any lost) (words-node kind) ∙ kind_clear kind h (every_here Here (λ p. Unit {0}) kind fails) (every_below Here (λ p. Unit {0}) kind fails))
      (λ variable value h fails. h (every_value Here (λ p. Unit {0}) (bound_pair_of variable value) fails))

  untouched_tree : (t : Bound) → touches old new t ≡ false → captured (changed_key old new) t t ≡ false
  untouched_tree t f =
      beside_itself (is_captured (changed_key old new)) (words_in t)
      ∙ clear t (none_passes (λ sheet. false) (touches_word old new) (λ sheet word. touches_word old new word) t f)

-- so is a formula
pub untouched_uncaptured : (old new : NameKey) (f : Formula) → is_touched old new f ≡ false → captured_formula (changed_key old new) f f ≡ false
untouched_uncaptured old new (formulas.Tree t) e = untouched_tree old new t e
untouched_uncaptured old new (formulas.Raw text) e = refl
