-- A formula that was bound in one scene, spelled, and bound in another scene, is that formula with each mention
-- replaced by what its spelling finds.
use mathlib.Core.Path.{fun_ext}
use Rattle.std.proofs.Common.{◌≡◌, ℕ, List, [], ◌∷◌, ◌++◌, map, Option, None, Some, refl, sym, ap, ap₂, subst, ◌∙◌}
use Rattle.std.specs.List.{AllByRecursion}
use Rattle.ic_laws.specs.Tree.{Spelled, Bound, Kind}
use Rattle.ic_laws.specs.declared.tree.NameKey.{NameKey}
use Rattle.ic_laws.specs.declared.tree.LetPair.{roll-LetPair, fold-roll-LetPair}
use Rattle.ic_laws.specs.declared.tree.NameMention.{NameMention}
use Rattle.ic_laws.specs.declared.tree.SheetMention.{SheetMention}
use Rattle.ic_laws.specs.declared.tree.Tree.{Tree-F, roll-Tree, map-Tree, fold-roll-Tree}
use Rattle.ic_laws.specs.declared.tree.Tree.TheOpen as one
use Rattle.ic_laws.proofs.binding.Induction.{by_nodes, OfChildren, EveryPair, every_here, every_below, every_value}
use Rattle.ic_laws.specs.Binding.{Binders, Binds, BindsPair, BoundPair, all_bound, bound, bound_call, bound_kind, bound_local, bound_pair_of, bound_pair_step, bound_sheet, bound_step, bound_under, bound_word, pair_binds, pairs_bound, spelled_kind, spelled_pair_step, spelled_sheet, spelled_step, spelled_with, spelled_word, with_parameters, with_variables}
use Rattle.ic_laws.specs.Mentions.{AllMentions, LocalMention, OfMentions, mapped, mapped_kind, mapped_pair_step, mapped_step}
use Rattle.ic_laws.specs.Parse.{Pair, SpelledKind, node}
use Rattle.ic_laws.specs.declared.scene.Scene.{Scene}

abbrev pub BoundKind : Type 0
BoundKind = Kind SheetMention NameMention

abbrev pub bound_node : BoundKind → Bound
bound_node kind = roll-Tree SheetMention NameMention kind

module _ (sheet_text : ℕ → List ℕ) (key_text : NameKey → List ℕ) where
  abbrev pub spell : Bound → Spelled
  spell = spelled_with sheet_text key_text

  -- a node with each child spelled
  abbrev pub pair_spelled : BoundPair → Pair
  pair_spelled pair = roll-LetPair (Option (List ℕ)) (List ℕ) (record { variable = pair.variable; value = spell pair.value })

  abbrev pub children_spelled : BoundKind → Tree-F SheetMention NameMention Spelled Pair
  children_spelled kind = map-Tree SheetMention NameMention Bound BoundPair Spelled Pair spell pair_spelled kind

  pub spelled-node : (kind : BoundKind) → spell (bound_node kind) ≡ node (spelled_kind sheet_text key_text (children_spelled kind))
  spelled-node kind =
      fold-roll-Tree SheetMention NameMention Spelled Pair (spelled_step sheet_text key_text) (spelled_pair_step sheet_text key_text) kind
      ∙ ap (λ (g : BoundPair → Pair). spelled_step sheet_text key_text (map-Tree SheetMention NameMention Bound BoundPair Spelled Pair spell g kind))
      (fun_ext (λ pair. fold-roll-LetPair SheetMention NameMention Spelled Pair (spelled_step sheet_text key_text) (spelled_pair_step sheet_text key_text) (record { variable = pair.variable; value = pair.value })))

module _ (english : List ℕ → Option ℕ) (scene : Scene) (scope : Option ℕ) where
  abbrev pub under : Spelled → Binds
  under = bound_under english scene scope

  -- a node with what binds each child
  abbrev pub children_bound : SpelledKind → Tree-F (Option (List ℕ)) (List ℕ) Binds BindsPair
  children_bound kind = map-Tree (Option (List ℕ)) (List ℕ) Spelled Pair Binds BindsPair under (pair_binds english scene scope) kind

  abbrev pub once : SpelledKind → Binders → BoundKind
  once kind binders = bound_kind english scene scope (children_bound kind) binders

  pub bound-node : (kind : SpelledKind) (binders : Binders) → under (node kind) binders ≡ bound_node (once kind binders)
  bound-node kind binders =
      ap (λ (f : Binds). f binders)
      (fold-roll-Tree (Option (List ℕ)) (List ℕ) Binds BindsPair (bound_step english scene scope) (bound_pair_step english scene scope) kind
      ∙ ap (λ (g : Pair → BindsPair). bound_step english scene scope (map-Tree (Option (List ℕ)) (List ℕ) Spelled Pair Binds BindsPair under g kind))
      (fun_ext (λ pair. fold-roll-LetPair (Option (List ℕ)) (List ℕ) Binds BindsPair (bound_step english scene scope) (bound_pair_step english scene scope) (record { variable = pair.variable; value = pair.value }))))

module _ (f : SheetMention → SheetMention) (g : NameMention → NameMention) (l : SheetMention → NameMention → LocalMention) where
  -- a node with each child's mentions replaced
  abbrev pub pair_mapped : BoundPair → BoundPair
  pair_mapped pair = bound_pair_of pair.variable (mapped f g l pair.value)

  abbrev pub children_mapped : BoundKind → BoundKind
  children_mapped kind = map-Tree SheetMention NameMention Bound BoundPair Bound BoundPair (mapped f g l) pair_mapped kind

  pub mapped-node : (kind : BoundKind) → mapped f g l (bound_node kind) ≡ bound_node (mapped_kind f g l (children_mapped kind))
  mapped-node kind =
      fold-roll-Tree SheetMention NameMention Bound BoundPair (mapped_step f g l) (mapped_pair_step f g l) kind
      ∙ ap (λ (h : BoundPair → BoundPair). mapped_step f g l (map-Tree SheetMention NameMention Bound BoundPair Bound BoundPair (mapped f g l) h kind))
      (fun_ext (λ pair. fold-roll-LetPair SheetMention NameMention Bound BoundPair (mapped_step f g l) (mapped_pair_step f g l) (record { variable = pair.variable; value = pair.value })))

  module _ (P : SheetMention → Type 0) (Q : NameMention → Type 0) (R : SheetMention → NameMention → Type 0) (sheet_same : (m : SheetMention) → P m → f m ≡ m) (name_same : (m : NameMention) → Q m → g m ≡ m) (local_same : (s : SheetMention) (m : NameMention) → P s → R s m → l s m ≡ (s, m)) where
    abbrev Fine : Bound → Type 0
    Fine t = AllMentions P Q R t

    abbrev FinePair : BoundPair → Type 0
    FinePair pair = EveryPair (OfMentions P Q R) (λ p. Unit {0}) pair

    abbrev Same : Bound → Type 0
    Same t = Fine t → mapped f g l t ≡ t

    abbrev PairSame : BoundPair → Type 0
    PairSame pair = FinePair pair → pair_mapped pair ≡ pair

    all_same : (ts : List Bound) → AllByRecursion Same ts → AllByRecursion Fine ts → map (mapped f g l) ts ≡ ts
    all_same [] h fine = refl
    all_same (t ∷ ts) h fine = ap₂ ◌∷◌ (h.0 fine.0) (all_same ts h.1 fine.1)

    pairs_same : (ps : List BoundPair) → AllByRecursion PairSame ps → AllByRecursion FinePair ps → map pair_mapped ps ≡ ps
    pairs_same [] h fine = refl
    pairs_same (p ∷ ps) h fine = ap₂ ◌∷◌ (h.0 fine.0) (pairs_same ps h.1 fine.1)

    kind_same : (kind : BoundKind) → OfChildren Same PairSame kind → OfMentions P Q R kind → OfChildren Fine FinePair kind → mapped_kind f g l (children_mapped kind) ≡ kind
    kind_same (one.Num units) h here fine = refl
    kind_same (one.Str text) h here fine = refl
    kind_same (one.Bool value) h here fine = refl
    kind_same (one.Err code) h here fine = refl
    kind_same (one.Reference sheet place) h here fine = ap (λ (s : SheetMention). let k : BoundKind = one.Reference s place in k) (sheet_same sheet here)
    kind_same (one.Local sheet word) h here fine = ap (λ (p : LocalMention). let k : BoundKind = one.Local p.0 p.1 in k) (local_same sheet word here.0 here.1)
    kind_same (one.Word word) h here fine = ap (λ (w : NameMention). let k : BoundKind = one.Word w in k) (name_same word here)
    kind_same one.Empty h here fine = refl
    kind_same (one.Paren x) h here fine = ap (λ (t : Bound). let k : BoundKind = one.Paren t in k) (h fine)
    kind_same (one.Prefix sign x) h here fine = ap (λ (t : Bound). let k : BoundKind = one.Prefix sign t in k) (h fine)
    kind_same (one.Percent x) h here fine = ap (λ (t : Bound). let k : BoundKind = one.Percent t in k) (h fine)
    kind_same (one.Spill x) h here fine = ap (λ (t : Bound). let k : BoundKind = one.Spill t in k) (h fine)
    kind_same (one.Binary sign a b) h here fine = ap₂ (λ (t u : Bound). let k : BoundKind = one.Binary sign t u in k) (h.0 fine.0) (h.1 fine.1)
    kind_same (one.Fun number arguments) h here fine = ap (λ (ts : List Bound). let k : BoundKind = one.Fun number ts in k) (all_same arguments h fine)
    kind_same (one.Call word arguments) h here fine = ap₂ (λ (w : NameMention) (ts : List Bound). let k : BoundKind = one.Call w ts in k) (name_same word here) (all_same arguments h fine)
    kind_same (one.Let pairs body) h here fine = ap₂ (λ (ps : List BoundPair) (t : Bound). let k : BoundKind = one.Let ps t in k) (pairs_same pairs h.0 fine.0) (h.1 fine.1)
    kind_same (one.Lambda parameters body) h here fine = ap (λ (t : Bound). let k : BoundKind = one.Lambda parameters t in k) (h fine)
    kind_same (one.Apply x arguments) h here fine = ap₂ (λ (t : Bound) (ts : List Bound). let k : BoundKind = one.Apply t ts in k) (h.0 fine.0) (all_same arguments h.1 fine.1)
    kind_same (one.Array rows) h here fine = refl

    -- replacing changes nothing where no mention is replaced by another
    pub mapped_same : (t : Bound) → AllMentions P Q R t → mapped f g l t ≡ t
    mapped_same =
        by_nodes Same PairSame
        (λ kind h fine. mapped-node kind ∙ ap bound_node (kind_same kind h (every_here (OfMentions P Q R) (λ p. Unit {0}) kind fine) (every_below (OfMentions P Q R) (λ p. Unit {0}) kind fine)))
        (λ variable value h fine. ap (bound_pair_of variable) (h (every_value (OfMentions P Q R) (λ p. Unit {0}) (bound_pair_of variable value) fine)))

-- A mention that was found in one scene and is spelled so becomes f or g of it in another, a word with its sheet l of both, and a called word that was no
-- function stays none.
pub record FindAgain (english : List ℕ → Option ℕ) (scope : Option ℕ) (before after : Scene) (sheet_text : ℕ → List ℕ) (key_text : NameKey → List ℕ) (f : SheetMention → SheetMention) (g : NameMention → NameMention) (l : SheetMention → NameMention → LocalMention) : Type 0 where
  pub sheet : (name : Option (List ℕ)) → bound_sheet after (spelled_sheet sheet_text (bound_sheet before name)) ≡ f (bound_sheet before name)
  pub local : (name : Option (List ℕ)) (word : List ℕ)
      → ◌≡◌ {A = LocalMention} (bound_sheet after (spelled_sheet sheet_text (bound_sheet before name)), bound_local after (bound_sheet after (spelled_sheet sheet_text (bound_sheet before name))) (spelled_word key_text (bound_local before (bound_sheet before name) word)))
      (l (bound_sheet before name) (bound_local before (bound_sheet before name) word))
  pub word : (binders : Binders) (word : List ℕ) → bound_word after scope binders (spelled_word key_text (bound_word before scope binders word)) ≡ g (bound_word before scope binders word)
  pub called : (binders : Binders) (word : List ℕ) → english word ≡ None → english (spelled_word key_text (bound_word before scope binders word)) ≡ None

module _ (english : List ℕ → Option ℕ) (scope : Option ℕ) (before after : Scene) (sheet_text : ℕ → List ℕ) (key_text : NameKey → List ℕ) (f : SheetMention → SheetMention) (g : NameMention → NameMention) (l : SheetMention → NameMention → LocalMention) where
  abbrev first : Spelled → Binds
  first = under english before scope

  abbrev then : Spelled → Binds
  then = under english after scope

  abbrev respelled : Bound → Spelled
  respelled = spell sheet_text key_text

  -- whichever variables are seen
  abbrev pub Again : Spelled → Type 0
  Again t = (binders : Binders) → then (respelled (first t binders)) binders ≡ mapped f g l (first t binders)

  abbrev pub PairAgain : Pair → Type 0
  PairAgain pair = Again pair.value

  all_again : (ts : List Spelled) (binders : Binders) → AllByRecursion Again ts
      → all_bound (map then (map respelled (all_bound (map first ts) binders))) binders ≡ map (mapped f g l) (all_bound (map first ts) binders)
  all_again [] binders h = refl
  all_again (t ∷ ts) binders h = ap₂ ◌∷◌ (h.0 binders) (all_again ts binders h.1)

  abbrev pairs_first : List Pair → List BindsPair
  pairs_first pairs = map (pair_binds english before scope) pairs

  abbrev pairs_then : List Pair → Binders → List BindsPair
  pairs_then pairs binders = map (pair_binds english after scope) (map (pair_spelled sheet_text key_text) (pairs_bound (pairs_first pairs) binders))

  pairs_again : (pairs : List Pair) (binders : Binders) → AllByRecursion PairAgain pairs
      → pairs_bound (pairs_then pairs binders) binders ≡ map (pair_mapped f g l) (pairs_bound (pairs_first pairs) binders)
  pairs_again [] binders h = refl
  pairs_again (pair ∷ pairs) binders h = ap₂ (λ value rest. bound_pair_of pair.variable value ∷ rest) (h.0 binders) (pairs_again pairs (binders ++ pair.variable ∷ []) h.1)

  -- the variables are the same
  same_variables : (pairs : List Pair) (binders : Binders) → map (λ (pair : BindsPair). pair.variable) (pairs_then pairs binders) ≡ map (λ (pair : BindsPair). pair.variable) (pairs_first pairs)
  same_variables [] binders = refl
  same_variables (pair ∷ pairs) binders = ap (λ names. pair.variable ∷ names) (same_variables pairs (binders ++ pair.variable ∷ []))

  module _ (mentions : FindAgain english scope before after sheet_text key_text f g l) where
    abbrev back : BoundKind → Binders → BoundKind
    back kind binders = once english after scope (spelled_kind sheet_text key_text (children_spelled sheet_text key_text kind)) binders

    abbrev replaced : BoundKind → BoundKind
    replaced kind = mapped_kind f g l (children_mapped f g l kind)

    level : (kind : SpelledKind) (binders : Binders) → OfChildren Again PairAgain kind → back (once english before scope kind binders) binders ≡ replaced (once english before scope kind binders)
    level (one.Num units) binders h = refl
    level (one.Str text) binders h = refl
    level (one.Bool value) binders h = refl
    level (one.Err code) binders h = refl
    level (one.Reference sheet place) binders h = ap (λ (s : SheetMention). let k : BoundKind = one.Reference s place in k) (mentions.sheet sheet)
    level (one.Local sheet word) binders h = ap (λ (p : LocalMention). let k : BoundKind = one.Local p.0 p.1 in k) (mentions.local sheet word)
    level (one.Word word) binders h = ap (λ (w : NameMention). let k : BoundKind = one.Word w in k) (mentions.word binders word)
    level one.Empty binders h = refl
    level (one.Paren x) binders h = ap (λ (t : Bound). let k : BoundKind = one.Paren t in k) (h binders)
    level (one.Prefix sign x) binders h = ap (λ (t : Bound). let k : BoundKind = one.Prefix sign t in k) (h binders)
    level (one.Percent x) binders h = ap (λ (t : Bound). let k : BoundKind = one.Percent t in k) (h binders)
    level (one.Spill x) binders h = ap (λ (t : Bound). let k : BoundKind = one.Spill t in k) (h binders)
    level (one.Binary sign a b) binders h = ap₂ (λ (t u : Bound). let k : BoundKind = one.Binary sign t u in k) (h.0 binders) (h.1 binders)
    level (one.Fun number arguments) binders h = ap (λ (ts : List Bound). let k : BoundKind = one.Fun number ts in k) (all_again arguments binders h)
    level (one.Call word arguments) binders h = go (english word) refl
      where
        go : (found : Option ℕ) → english word ≡ found → back (bound_call english before scope found word (map first arguments) binders) binders ≡ replaced (bound_call english before scope found word (map first arguments) binders)
        go (Some number) e = ap (λ (ts : List Bound). let k : BoundKind = one.Fun number ts in k) (all_again arguments binders h)
        go None e =
            let spelling : List ℕ = spelled_word key_text (bound_word before scope binders word) in
            ap (λ (o : Option ℕ). bound_call english after scope o spelling (map then (map respelled (all_bound (map first arguments) binders))) binders) (mentions.called binders word e)
            ∙ ap₂ (λ (w : NameMention) (ts : List Bound). let k : BoundKind = one.Call w ts in k) (mentions.word binders word) (all_again arguments binders h)
    level (one.Let pairs body) binders h =
        let seen : Binders = with_variables (pairs_first pairs) binders in
        ap₂ (λ (ps : List BoundPair) (t : Bound). let k : BoundKind = one.Let ps t in k) (pairs_again pairs binders h.0)
        (ap (λ names. then (respelled (first body seen)) (binders ++ names)) (same_variables pairs binders) ∙ h.1 seen)
    level (one.Lambda parameters body) binders h = ap (λ (t : Bound). let k : BoundKind = one.Lambda parameters t in k) (h (with_parameters parameters binders))
    level (one.Apply x arguments) binders h = ap₂ (λ (t : Bound) (ts : List Bound). let k : BoundKind = one.Apply t ts in k) (h.0 binders) (all_again arguments binders h.1)
    level (one.Array rows) binders h = refl

    node_again : (kind : SpelledKind) → OfChildren Again PairAgain kind → Again (node kind)
    node_again kind h binders =
        let kind_bound : BoundKind = once english before scope kind binders in
        subst (λ (t : Bound). then (respelled t) binders ≡ mapped f g l t) (sym (bound-node english before scope kind binders))
        (ap (λ (t : Spelled). then t binders) (spelled-node sheet_text key_text kind_bound)
        ∙ (bound-node english after scope (spelled_kind sheet_text key_text (children_spelled sheet_text key_text kind_bound)) binders
        ∙ (ap bound_node (level kind binders h)
        ∙ sym (mapped-node f g l kind_bound))))

    pub again_under : (t : Spelled) → Again t
    again_under = by_nodes Again PairAgain node_again (λ variable value h. h)

    -- a formula that is bound, spelled and bound again
    pub bound_again : (t : Spelled) → bound english after scope (spelled_with sheet_text key_text (bound english before scope t)) ≡ mapped f g l (bound english before scope t)
    bound_again t = again_under t []
