-- Tests of mentions.
use mathlib.Core.Path.{fun_ext}
use Rattle.std.proofs.Common.{◌≡◌, ◌<◌, ℕ, List, [], ◌∷◌, Bool, true, false, map, length, get_or, refl, sym, ap, ap₂, subst, ◌∙◌, ◌||◌}
use Rattle.std.proofs.lemmas.Bool.{or_parts}
use Rattle.std.proofs.lemmas.List.{get_or-map, length-map}
use Rattle.std.proofs.lemmas.List.Folds.{list_any_at}
use Rattle.std.specs.List.{AllByRecursion, list_any}
use Rattle.ic_laws.proofs.binding.Again.{BoundKind, bound_node, children_mapped, mapped-node, pair_mapped}
use Rattle.ic_laws.proofs.binding.Induction.{OfChildren, by_nodes}
use Rattle.ic_laws.specs.Binding.{BoundPair}
use Rattle.ic_laws.specs.Mentions.{LocalMention, mapped, mapped_kind, some_mention, some_step}
use Rattle.ic_laws.specs.Tree.{Bound}
use Rattle.ic_laws.specs.declared.tree.LetPair.{fold-roll-LetPair}
use Rattle.ic_laws.specs.declared.tree.NameMention.{NameMention}
use Rattle.ic_laws.specs.declared.tree.SheetMention.{SheetMention}
use Rattle.ic_laws.specs.declared.tree.Tree.{fold-roll-Tree, map-Tree}
use Rattle.ic_laws.specs.declared.tree.Tree.TheOpen as one
use Rattle.ic_pool.proofs.CopyLemmas.{same_mentions}

-- one that passes is met in a loop
pub one_passes : {X : Type 0} (test : X → Bool) (xs : List X) (i : ℕ) (x : X) → i < length xs → x ≡ get_or xs i x → test x ≡ true → true ≡ list_any (λ b. b) (map test xs)
one_passes test xs i x within item holds =
    sym
    (list_any_at (λ b. b) (map test xs) i false (subst (λ n. i < n) (sym (length-map xs test)) within)
    (get_or-map test xs i x false within ∙ ap test (sym item) ∙ holds))

pub neither : {a b : Bool} → a ≡ false → b ≡ false → (a || b) ≡ false
neither e f = ap₂ (λ x y. x || y) e f

module _ (is_sheet : SheetMention → Bool) (is_word : NameMention → Bool) (is_local : SheetMention → NameMention → Bool) where
  abbrev some : Bound → Bool
  some = some_mention is_sheet is_word is_local

  abbrev pub some_below : BoundKind → Bool
  some_below kind = some_step is_sheet is_word is_local (map-Tree SheetMention NameMention Bound BoundPair Bool Bool some (λ pair. some pair.value) kind)

  pub some_node : (kind : BoundKind) → some_mention is_sheet is_word is_local (bound_node kind) ≡ some_below kind
  some_node kind =
      fold-roll-Tree SheetMention NameMention Bool Bool (some_step is_sheet is_word is_local) (λ pair. pair.value) kind
      ∙ ap (λ (g : BoundPair → Bool). some_step is_sheet is_word is_local (map-Tree SheetMention NameMention Bound BoundPair Bool Bool some g kind))
      (fun_ext (λ pair. fold-roll-LetPair SheetMention NameMention Bool Bool (some_step is_sheet is_word is_local) (λ p. p.value) (record { variable = pair.variable; value = pair.value })))

-- Where no mention of a formula passes a test, none of what its mentions become passes another, if that is so of each mention.
module _ (one_sheet other_sheet : SheetMention → Bool) (one_word other_word : NameMention → Bool) (one_local other_local : SheetMention → NameMention → Bool) (f : SheetMention → SheetMention) (g : NameMention → NameMention) (l : SheetMention → NameMention → LocalMention) where
  abbrev some_one : Bound → Bool
  some_one = some_mention one_sheet one_word one_local

  abbrev some_other : Bound → Bool
  some_other = some_mention other_sheet other_word other_local

  abbrev becomes : Bound → Bound
  becomes = mapped f g l

  abbrev Spared : Bound → Type 0
  Spared t = some_one t ≡ false → some_other (becomes t) ≡ false

  abbrev SparedPair : BoundPair → Type 0
  SparedPair pair = Spared pair.value

  abbrev local_passes : SheetMention → NameMention → Bool
  local_passes sheet word = other_sheet (l sheet word).0 || other_local (l sheet word).0 (l sheet word).1

  all_spared : {X : Type 0} (test narrow : X → Bool) (change : X → X) (xs : List X) → AllByRecursion (λ x. test x ≡ false → narrow (change x) ≡ false) xs → list_any (λ b. b) (map test xs) ≡ false → list_any (λ b. b) (map narrow (map change xs)) ≡ false
  all_spared test narrow change [] h e = refl
  all_spared test narrow change (x ∷ xs) h e = let parts = or_parts (test x) _ e in neither (h.0 parts.0) (all_spared test narrow change xs h.1 parts.1)

  module _ (sheet_spared : (m : SheetMention) → one_sheet m ≡ false → other_sheet (f m) ≡ false) (word_spared : (m : NameMention) → one_word m ≡ false → other_word (g m) ≡ false) (local_spared : (s : SheetMention) (m : NameMention) → one_sheet s ≡ false → one_local s m ≡ false → local_passes s m ≡ false) where
    kind_spared : (kind : BoundKind) → OfChildren Spared SparedPair kind → some_below one_sheet one_word one_local kind ≡ false
        → some_below other_sheet other_word other_local (mapped_kind f g l (children_mapped f g l kind)) ≡ false
    kind_spared (one.Num units) h e = refl
    kind_spared (one.Str text) h e = refl
    kind_spared (one.Bool value) h e = refl
    kind_spared (one.Err code) h e = refl
    kind_spared (one.Reference sheet place) h e = sheet_spared sheet e
    kind_spared (one.Local sheet name) h e = let parts = or_parts (one_sheet sheet) (one_local sheet name) e in local_spared sheet name parts.0 parts.1
    kind_spared (one.Word name) h e = word_spared name e
    kind_spared one.Empty h e = refl
    kind_spared (one.Paren x) h e = h e
    kind_spared (one.Prefix sign x) h e = h e
    kind_spared (one.Percent x) h e = h e
    kind_spared (one.Spill x) h e = h e
    kind_spared (one.Binary sign a b) h e = let parts = or_parts (some_one a) _ e in neither (h.0 parts.0) (h.1 parts.1)
    kind_spared (one.Fun number arguments) h e = all_spared some_one some_other becomes arguments h e
    kind_spared (one.Call name arguments) h e =
        let parts = or_parts (one_word name) _ e in neither (word_spared name parts.0) (all_spared some_one some_other becomes arguments h parts.1)
    kind_spared (one.Let pairs body) h e =
        let parts = or_parts _ (some_one body) e in
        neither (all_spared (λ (pair : BoundPair). some_one pair.value) (λ pair. some_other pair.value) (pair_mapped f g l) pairs h.0 parts.0) (h.1 parts.1)
    kind_spared (one.Lambda parameters body) h e = h e
    kind_spared (one.Apply x arguments) h e =
        let parts = or_parts (some_one x) _ e in neither (h.0 parts.0) (all_spared some_one some_other becomes arguments h.1 parts.1)
    kind_spared (one.Array rows) h e = refl

    pub none_becomes : (t : Bound) → some_mention one_sheet one_word one_local t ≡ false → some_mention other_sheet other_word other_local (mapped f g l t) ≡ false
    none_becomes =
        by_nodes Spared SparedPair
        (λ kind h e. ap some_other (mapped-node f g l kind) ∙ some_node other_sheet other_word other_local (mapped_kind f g l (children_mapped f g l kind))
        ∙ kind_spared kind h (sym (some_node one_sheet one_word one_local kind) ∙ e))
        (λ variable value h. h)

-- so none passes a narrower one
pub fewer_pass : (first second : SheetMention → Bool) (word other : NameMention → Bool) (with_sheet other_with : SheetMention → NameMention → Bool) → ((m : SheetMention) → first m ≡ false → second m ≡ false) → ((m : NameMention) → word m ≡ false → other m ≡ false) → ((s : SheetMention) (m : NameMention) → with_sheet s m ≡ false → other_with s m ≡ false)
    → (t : Bound) → some_mention first word with_sheet t ≡ false → some_mention second other other_with t ≡ false
fewer_pass first second word other with_sheet other_with fewer fewer_words fewer_local t e =
    ap (some_mention second other other_with) (sym (same_mentions t))
    ∙ none_becomes first second word other with_sheet other_with (λ m. m) (λ m. m) (λ s m. (s, m)) fewer fewer_words (λ s m a b. neither (fewer s a) (fewer_local s m b)) t e
