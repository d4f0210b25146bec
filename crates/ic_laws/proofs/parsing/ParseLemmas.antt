-- Lists of tokens and well-formed trees: a well-formed tree is read from its tokens, and what is read is one whose
-- tokens those are.
use Rattle.std.proofs.Common.{◌≡◌, ◌≢◌, inl, inr, ℕ, zero, suc, List, [], ◌∷◌, ◌++◌, append-nil, None, Some, true, false, refl, sym, ap, subst, ◌∙◌, arith}
use Rattle.std.proofs.lemmas.Bool.{cases_Bool}
use Rattle.std.proofs.lemmas.Option.{same_Some, option_and_then_some}
use Rattle.std.specs.List.{AllByRecursion}
use Rattle.ic_laws.specs.Dialect.{DialectMeaning}
use Rattle.ic_laws.specs.Parse.{SpelledKind, node, Pair, pair_of, Reader, reader, nothing_after, parsed}
use Rattle.ic_laws.specs.Reading.{IsWell}
use Rattle.ic_laws.specs.Token.{Token}
use Rattle.ic_laws.specs.Tree.{Spelled, is_empty}
use Rattle.ic_laws.specs.Yield.{yield}
use Rattle.ic_laws.specs.declared.tree.Tree.TheOpen as one
use Rattle.ic_laws.proofs.parsing.Nodes.{OfChildren, by_nodes, AllWell, PairAllWell, WellKind, well_here, well_below, pair_here, pair_below, empty-node, level_positive}
use Rattle.ic_laws.proofs.parsing.Completeness.{ReadsBack, Complete, back, complete-Num, complete-Str, complete-Bool, complete-Err, complete-Reference, complete-Local, complete-Word, complete-Paren, complete-Prefix, complete-Percent, complete-Spill, complete-Binary}
use Rattle.ic_laws.proofs.parsing.CompleteCalls.{ArgumentWide, complete-Fun, complete-Call, complete-Apply}
use Rattle.ic_laws.proofs.parsing.CompleteParts.{PairWide, complete-Let, complete-Lambda, complete-Array}
use Rattle.ic_laws.proofs.parsing.Soundness.{Good, Sound}
use Rattle.ic_laws.proofs.parsing.SoundOperands.{expression_sound}

-- what is well-formed, and there, is read back
abbrev IsReadBack : DialectMeaning → Spelled → Type 0
IsReadBack d t = AllWell d t → is_empty t ≡ false → Complete d t

abbrev PairIsReadBack : DialectMeaning → Pair → Type 0
PairIsReadBack d pair = PairAllWell d pair → PairWide d pair

arguments_wide : (d : DialectMeaning) (ts : List Spelled) → AllByRecursion (IsReadBack d) ts → AllByRecursion (AllWell d) ts → AllByRecursion (ArgumentWide d) ts
arguments_wide d [] reads well = tt
arguments_wide d (t ∷ ts) reads well =
    let first : ArgumentWide d t = elim (cases_Bool (is_empty t)) [ inl h ↦ inl h | inr h ↦ let whole : Complete d t = reads.0 well.0 h in inr whole.wide ] in
    (first, arguments_wide d ts reads.1 well.1)

pairs_wide : (d : DialectMeaning) (pairs : List Pair) → AllByRecursion (PairIsReadBack d) pairs → AllByRecursion (PairAllWell d) pairs → AllByRecursion (PairWide d) pairs
pairs_wide d [] reads well = tt
pairs_wide d (pair ∷ pairs) reads well = (reads.0 well.0, pairs_wide d pairs reads.1 well.1)

reads_pair : (d : DialectMeaning) (variable : List ℕ) (value : Spelled) → IsReadBack d value → PairIsReadBack d (pair_of variable value)
reads_pair d variable value reads well =
    let here = pair_here d (pair_of variable value) well in
    let whole : Complete d value = reads (pair_below d (pair_of variable value) well) here.1 in
    (here.0, whole.wide)

reads_kind : (d : DialectMeaning) → d.let_fn ≢ d.lambda_fn → (kind : SpelledKind) → OfChildren (IsReadBack d) (PairIsReadBack d) kind → WellKind d kind → OfChildren (AllWell d) (PairAllWell d) kind → is_empty (node kind) ≡ false → Complete d (node kind)
reads_kind d differ (one.Num units) reads here below there = complete-Num d units here
reads_kind d differ (one.Str text) reads here below there = complete-Str d text
reads_kind d differ (one.Bool value) reads here below there = complete-Bool d value
reads_kind d differ (one.Err fault) reads here below there = complete-Err d fault
reads_kind d differ (one.Reference sheet place) reads here below there = complete-Reference d sheet place here
reads_kind d differ (one.Local None word) reads here below there = absurd (cc)
reads_kind d differ (one.Local (Some sheet) word) reads here below there = complete-Local d sheet word here.words.0 here.words.1
reads_kind d differ (one.Word text) reads here below there = complete-Word d text here.words
reads_kind d differ one.Empty reads here below there = let no : true ≡ false = sym (empty-node one.Empty) ∙ there in cc
reads_kind d differ (one.Paren x) reads here below there = let whole : Complete d x = reads below here.parts in complete-Paren d x whole.wide
reads_kind d differ (one.Prefix sign x) reads here below there = let whole : Complete d x = reads below here.parts in complete-Prefix d sign x here whole.wide
reads_kind d differ (one.Percent x) reads here below there = complete-Percent d x here (reads below here.parts)
reads_kind d differ (one.Spill x) reads here below there = complete-Spill d x here (reads below here.parts)
reads_kind d differ (one.Binary sign x y) reads here below there =
    let first : Complete d x = reads.0 below.0 here.parts.0 in
    let second : Complete d y = reads.1 below.1 here.parts.1 in
    complete-Binary d sign x y here first.wide second.wide
reads_kind d differ (one.Fun number ts) reads here below there = complete-Fun d number ts here (arguments_wide d ts reads below)
reads_kind d differ (one.Call name ts) reads here below there = complete-Call d name ts here (arguments_wide d ts reads below)
reads_kind d differ (one.Let pairs body) reads here below there =
    let whole : Complete d body = reads.1 below.1 here.parts in complete-Let d pairs body here (pairs_wide d pairs reads.0 below.0) whole.wide
reads_kind d differ (one.Lambda parameters body) reads here below there =
    let whole : Complete d body = reads below here.parts in complete-Lambda d differ parameters body here whole.wide
reads_kind d differ (one.Apply x ts) reads here below there = complete-Apply d x ts here (reads.0 below.0 here.parts) (arguments_wide d ts reads.1 below.1)
reads_kind d differ (one.Array rows) reads here below there = complete-Array d rows here

reads_all : (d : DialectMeaning) → d.let_fn ≢ d.lambda_fn → (t : Spelled) → IsReadBack d t
reads_all d differ =
    by_nodes (IsReadBack d) (PairIsReadBack d) (λ kind reads well there. reads_kind d differ kind reads (well_here d kind well) (well_below d kind well) there)
    (λ variable value reads. reads_pair d variable value reads)

-- a well-formed tree is read from its tokens
pub parsed_complete : (d : DialectMeaning) (t : Spelled) → d.let_fn ≢ d.lambda_fn → IsWell d t → parsed d (yield d t) ≡ Some t
unfolding parsed
parsed_complete d t differ well =
    let whole : Complete d t = reads_all d differ t well.nodes well.there in
    let reads : ReadsBack d 1024 128 t = back d t whole.wide 1024 128 well.low well.few_brackets in
    let read : reader d 1024 128 1 (yield d t ++ []) ≡ Some (t, []) = reads.reads 1 [] (level_positive t) tt in
    let same : reader d 1024 128 1 (yield d t) ≡ Some (t, []) = subst (λ (ts : List Token). reader d 1024 128 1 ts ≡ Some (t, [])) (append-nil (yield d t)) read in
    rw same refl

-- well-formed trees with the same tokens are equal
pub yield_injective : (d : DialectMeaning) (s t : Spelled) → d.let_fn ≢ d.lambda_fn → IsWell d s → IsWell d t → yield d s ≡ yield d t → s ≡ t
yield_injective d s t differ well_s well_t same =
    same_Some s t (sym (parsed_complete d s differ well_s) ∙ (ap (parsed d) same ∙ parsed_complete d t differ well_t))

-- a reader of lower trees reads no higher ones
sound_higher : (d : DialectMeaning) (most : ℕ) (below : Reader) → Sound d most below → Sound d (suc most) below
sound_higher d most below sound = record {
  good = λ b least ts read le e.
      let good : Good d most b least ts read = sound.good b least ts read le e in
      record { tokens = good.tokens; well = good.well; there = good.there; low = omega (arith, good.low); few = good.few; tight = good.tight };
  no_sign = sound.no_sign;
}

pub reader_sound : (d : DialectMeaning) (most : ℕ) → Sound d most (reader d most)
unfolding reader
reader_sound d zero = record { good = λ b least ts read le e. cc; no_sign = λ b least ts read le e. cc }
reader_sound d (suc most) = expression_sound d (suc most) (reader d most) (sound_higher d most (reader d most) (reader_sound d most))

-- what is read from a list of tokens is a well-formed tree whose tokens those are
pub parsed_sound : (d : DialectMeaning) (ts : List Token) (t : Spelled) → parsed d ts ≡ Some t → IsWell d t × (yield d t ≡ ts)
unfolding parsed
parsed_sound d ts t e = option_and_then_some _ (reader d 1024 128 1 ts) t e (λ read got h. at read.0 read.1 got h)
  where
    sound : Sound d 1024 (reader d 1024)
    sound = reader_sound d 1024

    at : (u : Spelled) (rest : List Token) → reader d 1024 128 1 ts ≡ Some (u, rest) → nothing_after u rest ≡ Some t → IsWell d t × (yield d t ≡ ts)
    at u [] got h =
        let good : Good d 1024 128 1 ts (u, []) = sound.good 128 1 ts (u, []) (omega arith) got in
        subst (λ (v : Spelled). IsWell d v × (yield d v ≡ ts)) (same_Some u t h) (
          record { nodes = good.well; there = good.there; few_brackets = good.few; low = good.low },
          sym (good.tokens ∙ append-nil (yield d u)),
        )
    at u (token ∷ rest) got h = cc
