-- Topics of what formulas mention.
use mathlib.Core.Path.{fun_ext}
use Rattle.std.proofs.Common.{◌≡◌, ℕ, List, [], ◌∷◌, ◌++◌, Bool, false, map, Option, refl, ap, ap₂, ◌∙◌, sym}
use Rattle.std.specs.Prelude.{flat_map, nat_eq}
use Rattle.std.specs.List.{AllByRecursion, list_any}
use Rattle.std.proofs.lemmas.Bool.{or_parts}
use Rattle.std.proofs.lemmas.List.Folds.{list_any-append}
use Rattle.caseless.proofs.CaselessLemmas.{default_case_fold-nil, default_case_fold-cons}
use Rattle.ic_laws.proofs.binding.Again.{BoundKind, bound_node}
use Rattle.ic_laws.proofs.binding.Induction.{OfChildren, by_nodes}
use Rattle.ic_laws.specs.Binding.{BoundPair}
use Rattle.ic_laws.specs.Changes.{Change, changes_local, changes_sheet, changes_word}
use Rattle.ic_laws.specs.Mentions.{some_mention}
use Rattle.ic_laws.specs.Name.{fold}
use Rattle.ic_laws.specs.Tree.{Bound}
use Rattle.ic_laws.specs.declared.tree.Formula.TheVariants as formulas
use Rattle.ic_laws.specs.declared.tree.LetPair.{fold-roll-LetPair}
use Rattle.ic_laws.specs.declared.tree.NameMention.{NameMention}
use Rattle.ic_laws.specs.declared.tree.SheetMention.{SheetMention}
use Rattle.ic_laws.specs.declared.tree.Tree.{fold-roll-Tree, map-Tree}
use Rattle.ic_laws.specs.declared.tree.Tree.TheOpen as one
use Rattle.ic_pool.specs.Pool.{is_among}
use Rattle.ic_pool.specs.Topics.{SparesOthers, all_mixed, mixed, sheet_topics, topics_step, tree_topics, word_topics}
use Rattle.ic_pool.proofs.MentionLemmas.{neither, some_below, some_node}
use Rattle.ucd_case.specs.CaseFolding.{full_fold}

-- ---- characters mixed into a number

all_mixed-append : (n : ℕ) (xs ys : List ℕ) → all_mixed n (xs ++ ys) ≡ all_mixed (all_mixed n xs) ys
all_mixed-append n [] ys = refl
all_mixed-append n (x ∷ xs) ys = all_mixed-append (mixed n x) xs ys

-- one character further
pub mixed_further : (n out : ℕ) (c : ℕ) (text rest after : List ℕ) → all_mixed n (fold rest) ≡ all_mixed 0 (fold text) → rest ≡ c ∷ after → out ≡ all_mixed n (full_fold c) → all_mixed out (fold after) ≡ all_mixed 0 (fold text)
mixed_further n out c text rest after so_far is mixes =
    ap (λ m. all_mixed m (fold after)) mixes ∙ sym (all_mixed-append n (full_fold c) (fold after))
    ∙ ap (all_mixed n) (sym (ap fold is ∙ default_case_fold-cons c after)) ∙ so_far

-- and none is left
pub mixed_whole : (n : ℕ) (text rest : List ℕ) → all_mixed n (fold rest) ≡ all_mixed 0 (fold text) → rest ≡ [] → n ≡ all_mixed 0 (fold text)
mixed_whole n text rest so_far none = ap (all_mixed n) (sym (ap fold none ∙ default_case_fold-nil)) ∙ so_far

-- ---- the topics of a node

abbrev topics_below : BoundKind → List ℕ
topics_below kind = topics_step (map-Tree SheetMention NameMention Bound BoundPair (List ℕ) (List ℕ) tree_topics (λ pair. tree_topics pair.value) kind)

topics_node : (kind : BoundKind) → tree_topics (bound_node kind) ≡ topics_below kind
topics_node kind =
    fold-roll-Tree SheetMention NameMention (List ℕ) (List ℕ) topics_step (λ pair. pair.value) kind
    ∙ ap (λ (g : BoundPair → List ℕ). topics_step (map-Tree SheetMention NameMention Bound BoundPair (List ℕ) (List ℕ) tree_topics g kind))
    (fun_ext (λ pair. fold-roll-LetPair SheetMention NameMention (List ℕ) (List ℕ) topics_step (λ p. p.value) (record { variable = pair.variable; value = pair.value })))

pub let_topics : (pairs ps : List BoundPair) (body b tree : Bound) → tree ≡ bound_node (one.Let pairs body) → ps ≡ pairs → b ≡ body
    → flat_map (λ ts. ts) (map (λ pair. tree_topics pair.value) ps) ++ tree_topics b ≡ tree_topics tree
let_topics pairs ps body b tree is first second =
    ap₂ (λ (qs : List BoundPair) (t : Bound). flat_map (λ ts. ts) (map (λ pair. tree_topics pair.value) qs) ++ tree_topics t) first second
    ∙ sym (ap tree_topics is ∙ topics_node (one.Let pairs body))

pub apply_topics : (x y : Bound) (arguments all : List Bound) (tree : Bound) → tree ≡ bound_node (one.Apply x arguments) → y ≡ x → all ≡ arguments
    → tree_topics y ++ flat_map (λ ts. ts) (map tree_topics all) ≡ tree_topics tree
apply_topics x y arguments all tree is first second =
    ap₂ (λ (t : Bound) (ts : List Bound). tree_topics t ++ flat_map (λ us. us) (map tree_topics ts)) first second
    ∙ sym (ap tree_topics is ∙ topics_node (one.Apply x arguments))

-- ---- a tree that mentions none of some topics has no mention that passes, where none without these topics does

-- one of these topics is among others
abbrev pub some_among : List ℕ → List ℕ → Bool
some_among topics others = list_any (λ topic. is_among topic others) topics

parts : (topics a b : List ℕ) → some_among topics (a ++ b) ≡ false → (some_among topics a ≡ false) × (some_among topics b ≡ false)
parts [] a b e = (refl, refl)
parts (topic ∷ topics) a b e =
    let two = or_parts (is_among topic (a ++ b)) (some_among topics (a ++ b)) e in
    let here = or_parts (is_among topic a) (is_among topic b) (sym (list_any-append (nat_eq topic) a b) ∙ two.0) in
    let rest = parts topics a b two.1 in
    (neither here.0 rest.0, neither here.1 rest.1)

module _ (topics : List ℕ) (is_sheet : SheetMention → Bool) (is_word : NameMention → Bool) (is_local : SheetMention → NameMention → Bool) (sheet_spared : (m : SheetMention) → some_among topics (sheet_topics m) ≡ false → is_sheet m ≡ false)
    (word_spared : (m : NameMention) → some_among topics (word_topics m) ≡ false → is_word m ≡ false) (local_spared : (s : SheetMention) (m : NameMention) → some_among topics (word_topics m) ≡ false → is_local s m ≡ false) where
  abbrev some : Bound → Bool
  some = some_mention is_sheet is_word is_local

  abbrev Spared : Bound → Type 0
  Spared t = some_among topics (tree_topics t) ≡ false → some t ≡ false

  abbrev SparedPair : BoundPair → Type 0
  SparedPair pair = Spared pair.value

  all_spared : {X : Type 0} (topics_of : X → List ℕ) (test : X → Bool) (xs : List X) → AllByRecursion (λ x. some_among topics (topics_of x) ≡ false → test x ≡ false) xs
      → some_among topics (flat_map (λ ts. ts) (map topics_of xs)) ≡ false → list_any (λ b. b) (map test xs) ≡ false
  all_spared topics_of test [] h e = refl
  all_spared topics_of test (x ∷ xs) h e =
      let two = parts topics (topics_of x) (flat_map (λ ts. ts) (map topics_of xs)) e in neither (h.0 two.0) (all_spared topics_of test xs h.1 two.1)

  kind_spared : (kind : BoundKind) → OfChildren Spared SparedPair kind → some_among topics (topics_below kind) ≡ false → some_below is_sheet is_word is_local kind ≡ false
  kind_spared (one.Num units) h e = refl
  kind_spared (one.Str text) h e = refl
  kind_spared (one.Bool value) h e = refl
  kind_spared (one.Err code) h e = refl
  kind_spared (one.Reference sheet place) h e = sheet_spared sheet e
  kind_spared (one.Local sheet word) h e = let two = parts topics (sheet_topics sheet) (word_topics word) e in neither (sheet_spared sheet two.0) (local_spared sheet word two.1)
  kind_spared (one.Word word) h e = word_spared word e
  kind_spared one.Empty h e = refl
  kind_spared (one.Paren x) h e = h e
  kind_spared (one.Prefix sign x) h e = h e
  kind_spared (one.Percent x) h e = h e
  kind_spared (one.Spill x) h e = h e
  kind_spared (one.Binary sign a b) h e = let two = parts topics (tree_topics a) (tree_topics b) e in neither (h.0 two.0) (h.1 two.1)
  kind_spared (one.Fun number arguments) h e = all_spared tree_topics some arguments h e
  kind_spared (one.Call word arguments) h e =
      let two = parts topics (word_topics word) (flat_map (λ ts. ts) (map tree_topics arguments)) e in neither (word_spared word two.0) (all_spared tree_topics some arguments h two.1)
  kind_spared (one.Let pairs body) h e =
      let two = parts topics (flat_map (λ ts. ts) (map (λ (pair : BoundPair). tree_topics pair.value) pairs)) (tree_topics body) e in
      neither (all_spared (λ (pair : BoundPair). tree_topics pair.value) (λ pair. some pair.value) pairs h.0 two.0) (h.1 two.1)
  kind_spared (one.Lambda parameters body) h e = h e
  kind_spared (one.Apply x arguments) h e =
      let two = parts topics (tree_topics x) (flat_map (λ ts. ts) (map tree_topics arguments)) e in neither (h.0 two.0) (all_spared tree_topics some arguments h.1 two.1)
  kind_spared (one.Array rows) h e = refl

  pub tree_spared : (t : Bound) → some_among topics (tree_topics t) ≡ false → some_mention is_sheet is_word is_local t ≡ false
  tree_spared =
      by_nodes Spared SparedPair
      (λ kind h e. some_node is_sheet is_word is_local kind ∙ kind_spared kind h (ap (some_among topics) (sym (topics_node kind)) ∙ e))
      (λ variable value h. h)

-- so a change of mentions with a topic leaves each formula that doesn't mention it
pub spares_others : (change : Change) (topic : ℕ) → ((m : SheetMention) → is_among topic (sheet_topics m) ≡ false → changes_sheet change m ≡ false) → ((scope : Option ℕ) (m : NameMention) → is_among topic (word_topics m) ≡ false → changes_word change scope m ≡ false)
    → ((s : SheetMention) (m : NameMention) → is_among topic (word_topics m) ≡ false → changes_local change s m ≡ false) → SparesOthers change (topic ∷ [])
spares_others change topic sheet word local scope (formulas.Tree t) e =
    tree_spared (topic ∷ []) (changes_sheet change) (changes_word change scope) (changes_local change) (λ m h. sheet m (alone (sheet_topics m) h)) (λ m h. word scope m (alone (word_topics m) h)) (λ s m h. local s m (alone (word_topics m) h)) t e
  where
    alone : (others : List ℕ) → some_among (topic ∷ []) others ≡ false → is_among topic others ≡ false
    alone others h = (or_parts (is_among topic others) false h).0
spares_others change topic sheet word local scope (formulas.Raw text) e = refl
