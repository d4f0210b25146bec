-- Two ways to write definitions write a formula the same where each of its words is written the same.
use Rattle.std.proofs.Common.{◌≡◌, ℕ, List, [], ◌∷◌, map, refl, sym, ap, ap₂, ◌∙◌}
use Rattle.std.specs.List.{AllByRecursion}
use Rattle.ic_laws.proofs.binding.Again.{BoundKind, children_spelled, pair_spelled, spell, spelled-node}
use Rattle.ic_laws.proofs.binding.Induction.{EveryPair, OfChildren, by_nodes, every_below, every_here, every_value}
use Rattle.ic_laws.specs.Binding.{BoundPair, bound_pair_of, spelled_kind, spelled_sheet, spelled_with, spelled_word}
use Rattle.ic_laws.specs.Mentions.{AllMentions, OfMentions}
use Rattle.ic_laws.specs.Parse.{Pair, SpelledKind, node, pair_of}
use Rattle.ic_laws.specs.Tree.{Bound, Spelled}
use Rattle.ic_laws.specs.declared.tree.NameKey.{NameKey}
use Rattle.ic_laws.specs.declared.tree.NameMention.{NameMention}
use Rattle.ic_laws.specs.declared.tree.SheetMention.{SheetMention}
use Rattle.ic_laws.specs.declared.tree.Tree.TheOpen as one

module _ (sheet_text : ℕ → List ℕ) (one_text other_text : NameKey → List ℕ) where
  abbrev pub AnySheet : SheetMention → Type 0
  AnySheet mention = Unit {0}

  abbrev pub SameWord : NameMention → Type 0
  SameWord word = spelled_word one_text word ≡ spelled_word other_text word

  abbrev pub SameLocal : SheetMention → NameMention → Type 0
  SameLocal sheet word = SameWord word

  abbrev one_way : Bound → Spelled
  one_way = spell sheet_text one_text

  abbrev other_way : Bound → Spelled
  other_way = spell sheet_text other_text

  abbrev Fine : Bound → Type 0
  Fine t = AllMentions AnySheet SameWord SameLocal t

  abbrev FinePair : BoundPair → Type 0
  FinePair pair = EveryPair (OfMentions AnySheet SameWord SameLocal) (λ p. Unit {0}) pair

  abbrev Same : Bound → Type 0
  Same t = Fine t → one_way t ≡ other_way t

  abbrev PairSame : BoundPair → Type 0
  PairSame pair = FinePair pair → pair_spelled sheet_text one_text pair ≡ pair_spelled sheet_text other_text pair

  all_same : (ts : List Bound) → AllByRecursion Same ts → AllByRecursion Fine ts → map one_way ts ≡ map other_way ts
  all_same [] h fine = refl
  all_same (t ∷ ts) h fine = ap₂ ◌∷◌ (h.0 fine.0) (all_same ts h.1 fine.1)

  pairs_same : (ps : List BoundPair) → AllByRecursion PairSame ps → AllByRecursion FinePair ps → map (pair_spelled sheet_text one_text) ps ≡ map (pair_spelled sheet_text other_text) ps
  pairs_same [] h fine = refl
  pairs_same (p ∷ ps) h fine = ap₂ ◌∷◌ (h.0 fine.0) (pairs_same ps h.1 fine.1)

  abbrev written : (NameKey → List ℕ) → BoundKind → SpelledKind
  written key_text kind = spelled_kind sheet_text key_text (children_spelled sheet_text key_text kind)

  kind_same : (kind : BoundKind) → OfChildren Same PairSame kind → OfMentions AnySheet SameWord SameLocal kind → OfChildren Fine FinePair kind → written one_text kind ≡ written other_text kind
  kind_same (one.Local sheet word) h here fine = ap (λ (w : List ℕ). let k : SpelledKind = one.Local (spelled_sheet sheet_text sheet) w in k) here.1
  kind_same (one.Word word) h here fine = ap (λ (w : List ℕ). let k : SpelledKind = one.Word w in k) here
  kind_same (one.Paren x) h here fine = ap (λ (t : Spelled). let k : SpelledKind = one.Paren t in k) (h fine)
  kind_same (one.Prefix sign x) h here fine = ap (λ (t : Spelled). let k : SpelledKind = one.Prefix sign t in k) (h fine)
  kind_same (one.Percent x) h here fine = ap (λ (t : Spelled). let k : SpelledKind = one.Percent t in k) (h fine)
  kind_same (one.Spill x) h here fine = ap (λ (t : Spelled). let k : SpelledKind = one.Spill t in k) (h fine)
  kind_same (one.Binary sign a b) h here fine = ap₂ (λ (t u : Spelled). let k : SpelledKind = one.Binary sign t u in k) (h.0 fine.0) (h.1 fine.1)
  kind_same (one.Fun number arguments) h here fine = ap (λ (ts : List Spelled). let k : SpelledKind = one.Fun number ts in k) (all_same arguments h fine)
  kind_same (one.Call word arguments) h here fine = ap₂ (λ (w : List ℕ) (ts : List Spelled). let k : SpelledKind = one.Call w ts in k) here (all_same arguments h fine)
  kind_same (one.Let pairs body) h here fine = ap₂ (λ (ps : List Pair) (t : Spelled). let k : SpelledKind = one.Let ps t in k) (pairs_same pairs h.0 fine.0) (h.1 fine.1)
  kind_same (one.Lambda parameters body) h here fine = ap (λ (t : Spelled). let k : SpelledKind = one.Lambda parameters t in k) (h fine)
  kind_same (one.Apply x arguments) h here fine = ap₂ (λ (t : Spelled) (ts : List Spelled). let k : SpelledKind = one.Apply t ts in k) (h.0 fine.0) (all_same arguments h.1 fine.1)
  kind_same kind h here fine = refl

  pub spelled_same : (t : Bound) → AllMentions AnySheet SameWord SameLocal t → spelled_with sheet_text one_text t ≡ spelled_with sheet_text other_text t
  spelled_same =
      by_nodes Same PairSame
      (λ kind h fine.
      spelled-node sheet_text one_text kind
      ∙ (ap node (kind_same kind h (every_here (OfMentions AnySheet SameWord SameLocal) (λ p. Unit {0}) kind fine) (every_below (OfMentions AnySheet SameWord SameLocal) (λ p. Unit {0}) kind fine))
      ∙ sym (spelled-node sheet_text other_text kind)))
      (λ variable value h fine. ap (pair_of variable) (h (every_value (OfMentions AnySheet SameWord SameLocal) (λ p. Unit {0}) (bound_pair_of variable value) fine)))
