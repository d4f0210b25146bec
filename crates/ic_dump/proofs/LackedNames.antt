-- What holds of each name of a sheet that a formula lacks holds of those of each of its mentions.
use mathlib.Core.Path.{fun_ext}
use Rattle.std.proofs.Common.{◌≡◌, ℕ, List, [], ◌∷◌, map, flat_map, refl, ap, subst, ◌∙◌}
use Rattle.std.specs.List.{AllByRecursion}
use Rattle.ic_laws.proofs.binding.Again.{BoundKind, bound_node}
use Rattle.ic_laws.proofs.binding.Induction.{EveryPair, OfChildren, by_nodes, every_made}
use Rattle.ic_laws.specs.Binding.{BoundPair}
use Rattle.ic_laws.specs.Mentions.{AllMentions, OfMentions}
use Rattle.ic_laws.specs.Tree.{Bound}
use Rattle.ic_laws.specs.declared.tree.LetPair.{every_made-LetPair, fold-roll-LetPair}
use Rattle.ic_laws.specs.declared.tree.NameMention.{NameMention}
use Rattle.ic_laws.specs.declared.tree.SheetMention.{SheetMention}
use Rattle.ic_laws.specs.declared.tree.Tree.{fold-roll-Tree, map-Tree}
use Rattle.ic_laws.specs.declared.tree.Tree.TheOpen as one
use Rattle.ic_dump.specs.Passing.{unfound, unfound_in, unfound_step}
use Rattle.ic_dump.proofs.ListLemmas.{back_holds, front_holds}

abbrev unfound_of_pair : BoundPair → List (List ℕ)
unfound_of_pair pair = unfound_in pair.value

-- those of a node, by those of its children
unfound-node : (kind : BoundKind) → unfound_in (bound_node kind) ≡ unfound_step (map-Tree SheetMention NameMention Bound BoundPair (List (List ℕ)) (List (List ℕ)) unfound_in unfound_of_pair kind)
unfound-node kind =
    fold-roll-Tree SheetMention NameMention (List (List ℕ)) (List (List ℕ)) unfound_step (λ pair. pair.value) kind
    ∙ ap (λ (g : BoundPair → List (List ℕ)). unfound_step (map-Tree SheetMention NameMention Bound BoundPair (List (List ℕ)) (List (List ℕ)) unfound_in g kind))
    (fun_ext (λ pair. fold-roll-LetPair SheetMention NameMention (List (List ℕ)) (List (List ℕ)) unfound_step (λ p. p.value) (record { variable = pair.variable; value = pair.value })))

module _ (P : List ℕ → Type 0) where
  abbrev All : List (List ℕ) → Type 0
  All names = AllByRecursion P names

  abbrev Here : BoundKind → Type 0
  Here = OfMentions (λ m. All (unfound m)) (λ w. Unit {0}) (λ s w. Unit {0})

  abbrev Mentions : Bound → Type 0
  Mentions t = AllMentions (λ m. All (unfound m)) (λ w. Unit {0}) (λ s w. Unit {0}) t

  abbrev PairMentions : BoundPair → Type 0
  PairMentions pair = EveryPair Here (λ p. Unit {0}) pair

  abbrev Gives : Bound → Type 0
  Gives t = All (unfound_in t) → Mentions t

  abbrev PairGives : BoundPair → Type 0
  PairGives pair = All (unfound_of_pair pair) → PairMentions pair

  each_gives : {X : Type 0} (names : X → List (List ℕ)) (F : X → Type 0) (xs : List X) → AllByRecursion (λ x. All (names x) → F x) xs → All (flat_map (λ ns. ns) (map names xs)) → AllByRecursion F xs
  each_gives names F [] h a = tt
  each_gives names F (x ∷ xs) h a =
      let rest : List (List ℕ) = flat_map (λ ns. ns) (map names xs) in
      (h.0 (front_holds P (names x) rest a), each_gives names F xs h.1 (back_holds P (names x) rest a))

  kind_gives : (kind : BoundKind) → OfChildren Gives PairGives kind
      → All (unfound_step (map-Tree SheetMention NameMention Bound BoundPair (List (List ℕ)) (List (List ℕ)) unfound_in unfound_of_pair kind)) → Here kind × OfChildren Mentions PairMentions kind
  kind_gives (one.Num units) h a = (tt, tt)
  kind_gives (one.Str text) h a = (tt, tt)
  kind_gives (one.Bool value) h a = (tt, tt)
  kind_gives (one.Err code) h a = (tt, tt)
  kind_gives (one.Reference sheet place) h a = (a, tt)
  kind_gives (one.Local sheet word) h a = ((a, tt), tt)
  kind_gives (one.Word word) h a = (tt, tt)
  kind_gives one.Empty h a = (tt, tt)
  kind_gives (one.Paren x) h a = (tt, h a)
  kind_gives (one.Prefix sign x) h a = (tt, h a)
  kind_gives (one.Percent x) h a = (tt, h a)
  kind_gives (one.Spill x) h a = (tt, h a)
  kind_gives (one.Binary sign x y) h a = (tt, (h.0 (front_holds P (unfound_in x) (unfound_in y) a), h.1 (back_holds P (unfound_in x) (unfound_in y) a)))
  kind_gives (one.Fun number arguments) h a = (tt, each_gives unfound_in Mentions arguments h a)
  kind_gives (one.Call word arguments) h a = (tt, each_gives unfound_in Mentions arguments h a)
  kind_gives (one.Let pairs body) h a =
      let names : List (List ℕ) = flat_map (λ ns. ns) (map unfound_of_pair pairs) in
      (tt, (each_gives unfound_of_pair PairMentions pairs h.0 (front_holds P names (unfound_in body) a), h.1 (back_holds P names (unfound_in body) a)))
  kind_gives (one.Lambda parameters body) h a = (tt, h a)
  kind_gives (one.Apply x arguments) h a =
      let names : List (List ℕ) = flat_map (λ ns. ns) (map unfound_in arguments) in
      (tt, (h.0 (front_holds P (unfound_in x) names a), each_gives unfound_in Mentions arguments h.1 (back_holds P (unfound_in x) names a)))
  kind_gives (one.Array rows) h a = (tt, tt)

  pub of_mentions : (t : Bound) → All (unfound_in t) → Mentions t
  of_mentions =
      by_nodes Gives PairGives
      (λ kind h a. let both = kind_gives kind h (subst All (unfound-node kind) a) in every_made Here (λ p. Unit {0}) kind both.0 both.1)
      (λ variable value h a. every_made-LetPair SheetMention NameMention Here (λ p. Unit {0}) (record { variable = variable; value = value }) (record { variable = variable; value = (value, h a) }) refl tt)
