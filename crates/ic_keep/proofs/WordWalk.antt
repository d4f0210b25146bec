-- One walk over two formulas that are alike finds what is captured: each word stands beside the one at its place.
use mathlib.Core.Path.{fun_ext}
use Rattle.std.proofs.Common.{◌≡◌, ◌+◌, arith, List, [], ◌∷◌, ◌++◌, map, flat_map, length, Bool, true, false, ◌&&◌, ◌||◌, Option, None, Some, nat_eq, refl, sym, ap, ap₂, subst, ◌∙◌}
use Rattle.std.specs.Prelude.{option_map}
use Rattle.std.specs.List.{AllByRecursion, list_any, zip}
use Rattle.std.proofs.Math.Bool.{or-false, or_assoc}
use Rattle.std.proofs.lemmas.Bool.{and_parts, eqb-true}
use Rattle.std.proofs.lemmas.List.{append-nil, length-append}
use Rattle.std.proofs.lemmas.Simd.{map-map}
use Rattle.ic_laws.proofs.binding.Again.{BoundKind, bound_node}
use Rattle.ic_laws.proofs.binding.Induction.{OfChildren, by_nodes}
use Rattle.ic_laws.specs.Binding.{BoundPair}
use Rattle.ic_laws.specs.Keeping.{KeyChange}
use Rattle.ic_laws.specs.Tree.{Bound}
use Rattle.ic_laws.specs.declared.tree.LetPair.{fold-roll-LetPair}
use Rattle.ic_laws.specs.declared.tree.NameMention.{NameMention}
use Rattle.ic_laws.specs.declared.tree.SheetMention.{SheetMention}
use Rattle.ic_laws.specs.declared.tree.Tree.{Tree-F, fold-Tree, fold-roll-Tree, map-Tree, roll-out-Tree}
use Rattle.ic_laws.specs.declared.tree.Tree.TheOpen as one
use Rattle.ic_keep.specs.Alike.{AreAlike, alike, alike_step, all_alike, arguments_here, first_of, first_part, kind_of, last_of, last_part, pairs_here, part_alike, values_of, words_here}
use Rattle.ic_keep.specs.Capture.{captured, captured_beside, captured_step, first_word, is_captured, part_captured, some_captured, word_of, words_in, words_step}

-- the words of a part, and of several
abbrev pub Words : Type 0
Words = List (Option NameMention)

abbrev part_words : Option Bound → Words
part_words None = []
part_words (Some t) = words_in t

abbrev all_words : List Bound → Words
all_words [] = []
all_words (t ∷ ts) = words_in t ++ all_words ts

abbrev words_of : Words → Option Bound → List Bound → List Bound → Option Bound → Words
words_of words front values arguments back = words ++ (part_words front ++ (all_words values ++ (all_words arguments ++ part_words back)))

all_words_of : (ts : List Bound) → flat_map (λ x. x) (map words_in ts) ≡ all_words ts
all_words_of [] = refl
all_words_of (t ∷ ts) = ap (λ ws. words_in t ++ ws) (all_words_of ts)

value_words_of : (ps : List BoundPair) → flat_map (λ x. x) (map (λ (p : BoundPair). words_in p.value) ps) ≡ all_words (values_of ps)
value_words_of [] = refl
value_words_of (p ∷ ps) = ap (λ ws. words_in p.value ++ ws) (value_words_of ps)

-- the words of a formula are those of its parts
abbrev pub children_words : BoundKind → Tree-F SheetMention NameMention Words Words
children_words kind = map-Tree SheetMention NameMention Bound BoundPair Words Words words_in (λ pair. words_in pair.value) kind

pub words-node : (kind : BoundKind) → words_in (bound_node kind) ≡ words_step (children_words kind)
words-node kind =
    fold-roll-Tree SheetMention NameMention Words Words words_step (λ pair. pair.value) kind
    ∙ ap (λ (g : BoundPair → Words). words_step (map-Tree SheetMention NameMention Bound BoundPair Words Words words_in g kind))
    (fun_ext (λ pair. fold-roll-LetPair SheetMention NameMention Words Words words_step (λ pair. pair.value) (record { variable = pair.variable; value = pair.value })))

abbrev words_below : BoundKind → Words
words_below kind = words_of (words_here kind) (first_part kind) (values_of (pairs_here kind)) (arguments_here kind) (last_part kind)

front_alone : (ws : Words) → ws ≡ ws ++ []
front_alone ws = sym (append-nil ws)

arguments_alone : (ts : List Bound) → flat_map (λ x. x) (map words_in ts) ≡ all_words ts ++ []
arguments_alone ts = all_words_of ts ∙ sym (append-nil (all_words ts))

words_by_parts : (kind : BoundKind) → words_step (children_words kind) ≡ words_below kind
words_by_parts (one.Paren x) = front_alone (words_in x)
words_by_parts (one.Prefix sign x) = front_alone (words_in x)
words_by_parts (one.Percent x) = front_alone (words_in x)
words_by_parts (one.Spill x) = front_alone (words_in x)
words_by_parts (one.Fun number arguments) = ap (λ (ws : Words). None ∷ ws) (arguments_alone arguments)
words_by_parts (one.Call word arguments) = ap (λ (ws : Words). Some word ∷ ws) (arguments_alone arguments)
words_by_parts (one.Let pairs body) = ap (λ ws. ws ++ words_in body) (value_words_of pairs)
words_by_parts (one.Apply x arguments) = ap (λ ws. words_in x ++ ws) (arguments_alone arguments)
words_by_parts kind = refl

words_at_top : (t : Bound) → words_in t ≡ words_below (kind_of t)
words_at_top t = ap words_in (sym (roll-out-Tree SheetMention NameMention t)) ∙ (words-node (kind_of t) ∙ words_by_parts (kind_of t))

-- each test of a formula beside another is that of its top
module _ (step : Tree-F SheetMention NameMention (Bound → Bool) (Bound → Bool) → Bound → Bool) where
  abbrev pub tested : Bound → Bound → Bool
  tested t = fold-Tree SheetMention NameMention (Bound → Bool) (Bound → Bool) step (λ pair. pair.value) t

  pub tested-node : (kind : BoundKind) (u : Bound) → tested (bound_node kind) u ≡ step (map-Tree SheetMention NameMention Bound BoundPair (Bound → Bool) (Bound → Bool) tested (λ pair. tested pair.value) kind) u
  tested-node kind u =
      ap (λ (f : Bound → Bool). f u)
      (fold-roll-Tree SheetMention NameMention (Bound → Bool) (Bound → Bool) step (λ pair. pair.value) kind
      ∙ ap (λ (g : BoundPair → Bound → Bool). step (map-Tree SheetMention NameMention Bound BoundPair (Bound → Bool) (Bound → Bool) tested g kind))
      (fun_ext (λ pair. fold-roll-LetPair SheetMention NameMention (Bound → Bool) (Bound → Bool) step (λ pair. pair.value) (record { variable = pair.variable; value = pair.value }))))

abbrev pub children_alike : BoundKind → Tree-F SheetMention NameMention (Bound → Bool) (Bound → Bool)
children_alike kind = map-Tree SheetMention NameMention Bound BoundPair (Bound → Bool) (Bound → Bool) alike (λ pair. alike pair.value) kind

module _ (keys : KeyChange) where
  abbrev hits : Words → Words → Bool
  hits before after = list_any (λ pair. is_captured keys pair.0 pair.1) (zip before after)

  hits_append : (ws bs cs ds : Words) → length ws ≡ length cs → hits (ws ++ bs) (cs ++ ds) ≡ (hits ws cs || hits bs ds)
  hits_append [] bs [] ds e = refl
  hits_append [] bs (c ∷ cs) ds e = absurd (omega (arith, e))
  hits_append (a ∷ ws) bs [] ds e = absurd (omega (arith, e))
  hits_append (a ∷ ws) bs (c ∷ cs) ds e =
      ap (λ b. is_captured keys a c || b) (hits_append ws bs cs ds (omega (arith, e))) ∙ sym (or_assoc (is_captured keys a c) (hits ws cs) (hits bs ds))

  -- a walk over two lists of words
  record Walk (b : Bool) (before after : Words) : Type 0 where
    same : length before ≡ length after
    is : b ≡ hits before after

  joined : (b c : Bool) (ws bs cs ds : Words) → Walk b ws cs → Walk c bs ds → Walk (b || c) (ws ++ bs) (cs ++ ds)
  joined b c ws bs cs ds front back = record {
    same = length-append ws bs ∙ (ap₂ ◌+◌ front.same back.same ∙ sym (length-append cs ds));
    is = ap₂ ◌||◌ front.is back.is ∙ sym (hits_append ws bs cs ds front.same);
  }

  like : {b c : Bool} {ws bs cs ds : Words} → b ≡ c → ws ≡ bs → cs ≡ ds → Walk c bs ds → Walk b ws cs
  like {b} {c} {ws} {bs} {cs} {ds} e f g walk = subst (λ x. Walk x ws cs) (sym e) (subst (λ x. Walk c x cs) (sym f) (subst (λ x. Walk c bs x) (sym g) walk))

  abbrev beside : Bound → Bound → Bool
  beside = captured_beside keys

  -- two formulas that are alike
  abbrev Walked : Bound → Type 0
  Walked t = (u : Bound) → AreAlike t u → Walk (beside t u) (words_in t) (words_in u)

  abbrev PairWalked : BoundPair → Type 0
  PairWalked pair = Walked pair.value

  abbrev PartWalked : Option Bound → Type 0
  PartWalked None = Unit {0}
  PartWalked (Some t) = Walked t

  abbrev part_beside : Option Bound → Option Bound → Bool
  part_beside None other = false
  part_beside (Some t) other = part_captured (beside t) other

  part_walk : (part other : Option Bound) → PartWalked part → part_alike (option_map alike part) other ≡ true → Walk (part_beside part other) (part_words part) (part_words other)
  part_walk None None h e = record { same = refl; is = refl }
  part_walk None (Some u) h e = absurd (let no : false ≡ true = e in cc)
  part_walk (Some t) None h e = absurd (let no : false ≡ true = e in cc)
  part_walk (Some t) (Some u) h e = h u e

  all_walk : (ts us : List Bound) → AllByRecursion Walked ts → all_alike (map alike ts) us ≡ true → Walk (some_captured (map beside ts) us) (all_words ts) (all_words us)
  all_walk [] [] h e = record { same = refl; is = refl }
  all_walk [] (u ∷ us) h e = absurd (let no : false ≡ true = e in cc)
  all_walk (t ∷ ts) [] h e = absurd (let no : false ≡ true = e in cc)
  all_walk (t ∷ ts) (u ∷ us) h e =
      let parts = and_parts (alike t u) (all_alike (map alike ts) us) e in
      joined (beside t u) (some_captured (map beside ts) us) (words_in t) (all_words ts) (words_in u) (all_words us) (h.0 u parts.0) (all_walk ts us h.1 parts.1)

  values_walked : (ps : List BoundPair) → AllByRecursion PairWalked ps → AllByRecursion Walked (values_of ps)
  values_walked [] h = tt
  values_walked (p ∷ ps) h = (h.0, values_walked ps h.1)

  -- the word of a node, where it has one
  no_word : (words : Words) → length words ≡ 0 → Walk false [] words
  no_word [] e = record { same = refl; is = refl }
  no_word (w ∷ ws) e = absurd (omega (arith, e))

  one_word : (word : Option NameMention) (words : Words) → length words ≡ 1 → Walk (is_captured keys word (first_word words)) (word ∷ []) words
  one_word word [] e = absurd (omega (arith, e))
  one_word word (w ∷ []) e = record { same = refl; is = sym (or-false (is_captured keys word w)) }
  one_word word (w ∷ v ∷ ws) e = absurd (omega (arith, e))

  abbrev all_beside : List Bound → List Bound → Bool
  all_beside ts us = some_captured (map beside ts) us

  -- a node whose parts are walked
  module _ (word : Bool) (words others : Words) (front first : Option Bound) (values pairs arguments given : List Bound) (back last : Option Bound) (word_walk : length words ≡ length others → Walk word words others)
      (front_walked : PartWalked front) (values_walked : AllByRecursion Walked values) (arguments_walked : AllByRecursion Walked arguments) (back_walked : PartWalked back)
      (e : (nat_eq (length words) (length others) && (part_alike (option_map alike front) first && (all_alike (map alike values) pairs && (all_alike (map alike arguments) given && part_alike (option_map alike back) last)))) ≡ true) where
    node_walk : Walk (word || (part_beside front first || (all_beside values pairs || (all_beside arguments given || part_beside back last)))) (words_of words front values arguments back) (words_of others first pairs given last)
    node_walk =
        let a = and_parts (nat_eq (length words) (length others)) _ e in
        let b = and_parts (part_alike (option_map alike front) first) _ a.1 in
        let c = and_parts (all_alike (map alike values) pairs) _ b.1 in
        let d = and_parts (all_alike (map alike arguments) given) (part_alike (option_map alike back) last) c.1 in
        joined word _ words _ others _ (word_walk (eqb-true (length words) (length others) a.0))
        (joined (part_beside front first) _ (part_words front) _ (part_words first) _ (part_walk front first front_walked b.0)
        (joined (all_beside values pairs) _ (all_words values) _ (all_words pairs) _ (all_walk values pairs values_walked c.0)
        (joined (all_beside arguments given) (part_beside back last) (all_words arguments) (part_words back) (all_words given) (part_words last) (all_walk arguments given arguments_walked d.0)
        (part_walk back last back_walked d.1))))

  module _ (u : Bound) where
    abbrev words_there : Words
    words_there = words_here (kind_of u)

    abbrev values_there : List Bound
    values_there = values_of (pairs_here (kind_of u))

    abbrev given_there : List Bound
    given_there = arguments_here (kind_of u)

    -- a node without a word, and one with a word
    bare_walk : length {A = Option NameMention} [] ≡ length words_there → Walk false [] words_there
    bare_walk l = no_word words_there (sym l)

    word_walk : (word : Option NameMention) → length {A = Option NameMention} (word ∷ []) ≡ length words_there → Walk (is_captured keys word (word_of u)) (word ∷ []) words_there
    word_walk word l = one_word word words_there (sym l)

    fun_walk : length {A = Option NameMention} (None ∷ []) ≡ length words_there → Walk false (None ∷ []) words_there
    fun_walk l = one_word None words_there (sym l)

    abbrev at_top : words_in u ≡ words_of words_there (first_of u) values_there given_there (last_of u)
    at_top = words_at_top u

    front_walk : (x : Bound) → Walked x → (nat_eq 0 (length words_there) && (part_alike (Some (alike x)) (first_of u) && (all_alike [] values_there && (all_alike [] given_there && part_alike None (last_of u))))) ≡ true
        → Walk (part_captured (beside x) (first_of u)) (words_in x) (words_in u)
    front_walk x h e =
        like (sym (or-false (part_captured (beside x) (first_of u)))) (front_alone (words_in x)) at_top
        (node_walk false [] words_there (Some x) (first_of u) [] values_there [] given_there None (last_of u) bare_walk h tt tt tt e)

    leaf_walk : (nat_eq 0 (length words_there) && (part_alike None (first_of u) && (all_alike [] values_there && (all_alike [] given_there && part_alike None (last_of u))))) ≡ true → Walk false [] (words_in u)
    leaf_walk e = like refl refl at_top (node_walk false [] words_there None (first_of u) [] values_there [] given_there None (last_of u) bare_walk tt tt tt tt e)

    name_walk : (word : NameMention) → (nat_eq 1 (length words_there) && (part_alike None (first_of u) && (all_alike [] values_there && (all_alike [] given_there && part_alike None (last_of u))))) ≡ true
        → Walk (is_captured keys (Some word) (word_of u)) (Some word ∷ []) (words_in u)
    name_walk word e =
        like (sym (or-false (is_captured keys (Some word) (word_of u)))) refl at_top
        (node_walk (is_captured keys (Some word) (word_of u)) (Some word ∷ []) words_there None (first_of u) [] values_there [] given_there None (last_of u) (word_walk (Some word)) tt tt tt tt e)

    abbrev children_beside : BoundKind → Tree-F SheetMention NameMention (Bound → Bool) (Bound → Bool)
    children_beside kind = map-Tree SheetMention NameMention Bound BoundPair (Bound → Bool) (Bound → Bool) beside (λ pair. beside pair.value) kind

    level : (kind : BoundKind) → OfChildren Walked PairWalked kind → alike_step (children_alike kind) u ≡ true → Walk (captured_step keys (children_beside kind) u) (words_step (children_words kind)) (words_in u)
    level (one.Local sheet word) h e = name_walk word e
    level (one.Word word) h e = name_walk word e
    level (one.Paren x) h e = front_walk x h e
    level (one.Prefix sign x) h e = front_walk x h e
    level (one.Percent x) h e = front_walk x h e
    level (one.Spill x) h e = front_walk x h e
    level (one.Binary sign a b) h e = like refl refl at_top (node_walk false [] words_there (Some a) (first_of u) [] values_there [] given_there (Some b) (last_of u) bare_walk h.0 tt tt h.1 e)
    level (one.Fun number arguments) h e =
        like (sym (or-false (all_beside arguments given_there))) (words_by_parts (one.Fun number arguments)) at_top
        (node_walk false (None ∷ []) words_there None (first_of u) [] values_there arguments given_there None (last_of u) fun_walk tt tt h tt e)
    level (one.Call word arguments) h e =
        like (ap (λ b. is_captured keys (Some word) (word_of u) || b) (sym (or-false (all_beside arguments given_there)))) (words_by_parts (one.Call word arguments)) at_top
        (node_walk (is_captured keys (Some word) (word_of u)) (Some word ∷ []) words_there None (first_of u) [] values_there arguments given_there None (last_of u) (word_walk (Some word)) tt tt h tt e)
    level (one.Let pairs body) h e =
        like (ap (λ fs. some_captured fs values_there || part_captured (beside body) (last_of u)) (sym (map-map beside (λ (p : BoundPair). p.value) pairs))) (words_by_parts (one.Let pairs body)) at_top
        (node_walk false [] words_there None (first_of u) (values_of pairs) values_there [] given_there (Some body) (last_of u) bare_walk tt (values_walked pairs h.0) tt h.1
        (ap (λ fs. nat_eq 0 (length words_there) && (part_alike None (first_of u) && (all_alike fs values_there && (all_alike [] given_there && part_alike (Some (alike body)) (last_of u))))) (map-map alike (λ (p : BoundPair). p.value) pairs) ∙ e))
    level (one.Lambda parameters body) h e = like refl refl at_top (node_walk false [] words_there None (first_of u) [] values_there [] given_there (Some body) (last_of u) bare_walk tt tt tt h e)
    level (one.Apply x arguments) h e =
        like (ap (λ b. part_captured (beside x) (first_of u) || b) (sym (or-false (all_beside arguments given_there)))) (words_by_parts (one.Apply x arguments)) at_top
        (node_walk false [] words_there (Some x) (first_of u) [] values_there arguments given_there None (last_of u) bare_walk h.0 tt h.1 tt e)
    level kind h e = leaf_walk e

  walked : (t : Bound) → Walked t
  walked =
      by_nodes Walked PairWalked
      (λ kind h u e. like (tested-node (captured_step keys) kind u) (words-node kind) refl (level u kind h (sym (tested-node alike_step kind u) ∙ e)))
      (λ variable value h. h)

  -- what the walk finds
  pub beside_is_captured : (t u : Bound) → AreAlike t u → captured_beside keys t u ≡ captured keys t u
  beside_is_captured t u e = (walked t u e).is
