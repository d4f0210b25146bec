-- Two facts of each mention of a formula, at once.
use Rattle.std.proofs.Common.{List, [], ◌∷◌, refl}
use Rattle.std.specs.List.{AllByRecursion}
use Rattle.ic_laws.proofs.binding.Again.{BoundKind}
use Rattle.ic_laws.proofs.binding.Induction.{EveryPair, OfChildren, by_nodes, every_below, every_here, every_made, every_value}
use Rattle.ic_laws.specs.Binding.{BoundPair, bound_pair_of}
use Rattle.ic_laws.specs.Mentions.{AllMentions, OfMentions}
use Rattle.ic_laws.specs.Tree.{Bound}
use Rattle.ic_laws.specs.declared.tree.LetPair.{every_made-LetPair}
use Rattle.ic_laws.specs.declared.tree.NameMention.{NameMention}
use Rattle.ic_laws.specs.declared.tree.SheetMention.{SheetMention}
use Rattle.ic_laws.specs.declared.tree.Tree.TheOpen as one

module _ (P Q R : SheetMention → Type 0) (F G H : NameMention → Type 0) (K L M : SheetMention → NameMention → Type 0) (of_sheet : (m : SheetMention) → P m → Q m → R m) (of_word : (m : NameMention) → F m → G m → H m)
    (of_local : (s : SheetMention) (m : NameMention) → P s → Q s → K s m → L s m → M s m) where
  abbrev Both : Bound → Type 0
  Both t = AllMentions P F K t → AllMentions Q G L t → AllMentions R H M t

  abbrev OfPair : (SheetMention → Type 0) → (NameMention → Type 0) → (SheetMention → NameMention → Type 0) → BoundPair → Type 0
  OfPair P F K pair = EveryPair (OfMentions P F K) (λ p. Unit {0}) pair

  abbrev PairBoth : BoundPair → Type 0
  PairBoth pair = OfPair P F K pair → OfPair Q G L pair → OfPair R H M pair

  here : (kind : BoundKind) → OfMentions P F K kind → OfMentions Q G L kind → OfMentions R H M kind
  here (one.Reference sheet place) h k = of_sheet sheet h k
  here (one.Local sheet word) h k = (of_sheet sheet h.0 k.0, of_local sheet word h.0 k.0 h.1 k.1)
  here (one.Word word) h k = of_word word h k
  here (one.Call word arguments) h k = of_word word h k
  here kind h k = tt

  all : {X : Type 0} (A B C : X → Type 0) → (xs : List X) → AllByRecursion (λ x. A x → B x → C x) xs → AllByRecursion A xs → AllByRecursion B xs → AllByRecursion C xs
  all A B C [] f h k = tt
  all A B C (x ∷ xs) f h k = (f.0 h.0 k.0, all A B C xs f.1 h.1 k.1)

  abbrev one_of : Bound → Type 0
  one_of = AllMentions P F K

  abbrev other_of : Bound → Type 0
  other_of = AllMentions Q G L

  abbrev both_of : Bound → Type 0
  both_of = AllMentions R H M

  below : (kind : BoundKind) → OfChildren Both PairBoth kind → OfChildren one_of (OfPair P F K) kind → OfChildren other_of (OfPair Q G L) kind → OfChildren both_of (OfPair R H M) kind
  below (one.Paren x) f h k = f h k
  below (one.Prefix sign x) f h k = f h k
  below (one.Percent x) f h k = f h k
  below (one.Spill x) f h k = f h k
  below (one.Binary sign a b) f h k = (f.0 h.0 k.0, f.1 h.1 k.1)
  below (one.Fun number arguments) f h k = all one_of other_of both_of arguments f h k
  below (one.Call word arguments) f h k = all one_of other_of both_of arguments f h k
  below (one.Let pairs body) f h k = (all (OfPair P F K) (OfPair Q G L) (OfPair R H M) pairs f.0 h.0 k.0, f.1 h.1 k.1)
  below (one.Lambda parameters body) f h k = f h k
  below (one.Apply x arguments) f h k = (f.0 h.0 k.0, all one_of other_of both_of arguments f.1 h.1 k.1)
  below kind f h k = tt

  -- a fact of each mention that follows from two facts of each
  pub mentions_both : (t : Bound) → AllMentions P F K t → AllMentions Q G L t → AllMentions R H M t
  mentions_both =
      by_nodes Both PairBoth
      (λ kind f h k.
      every_made (OfMentions R H M) (λ p. Unit {0}) kind (here kind (every_here (OfMentions P F K) (λ p. Unit {0}) kind h) (every_here (OfMentions Q G L) (λ p. Unit {0}) kind k))
      (below kind f (every_below (OfMentions P F K) (λ p. Unit {0}) kind h) (every_below (OfMentions Q G L) (λ p. Unit {0}) kind k)))
      (λ variable value f h k.
      let inside : AllMentions R H M value = f (every_value (OfMentions P F K) (λ p. Unit {0}) (bound_pair_of variable value) h) (every_value (OfMentions Q G L) (λ p. Unit {0}) (bound_pair_of variable value) k) in
      every_made-LetPair SheetMention NameMention (OfMentions R H M) (λ p. Unit {0}) (record { variable = variable; value = value }) (record { variable = variable; value = (value, inside) }) refl tt)
