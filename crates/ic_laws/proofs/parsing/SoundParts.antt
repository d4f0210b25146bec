-- What is read is a well-formed tree with those tokens: arguments, the parts of LET and LAMBDA, the rows of an array.
use Rattle.std.proofs.Common.{◌≡◌, inl, inr, ℕ, zero, suc, ◌≤◌, max, List, [], ◌∷◌, ◌++◌, length, append_assoc, Option, Some, None, option_map, option_and_then, Bool, true, false, refl, sym, ap, subst, ◌∙◌, map, arith, if◌then◌else◌}
use Rattle.std.proofs.lemmas.Bool.{cases_Bool}
use Rattle.std.proofs.lemmas.Option.{same_Some, cond_some, option_and_then_some}
use Rattle.std.specs.List.{AllByRecursion, list_all}
use Rattle.ic_laws.specs.Greatest.{greatest}
use Rattle.ic_laws.specs.Name.{is_variable}
use Rattle.ic_laws.specs.Dialect.{DialectMeaning}
use Rattle.ic_laws.specs.Parse.{node, Pair, pair_of, Read, Reader, past_separator, past_close, followed, listed, ends_argument, argument, arguments, binder, let_parts, lambda_parts}
use Rattle.ic_laws.specs.Token.{Token, Word, Separator, Close}
use Rattle.ic_laws.specs.Tree.{Spelled, is_empty, is_argument_list, open_brackets}
use Rattle.ic_laws.specs.Yield.{joined, yield}
use Rattle.ic_laws.specs.declared.tree.Tree.TheOpen as one
use Rattle.ic_laws.proofs.parsing.Nodes.{AllWell, PairAllWell, well_made, pair_made, yield-node, brackets-node, empty_yields}
use Rattle.ic_laws.proofs.parsing.CompleteParts.{let_tokens, lambda_tokens, let_tokens-cons, lambda_tokens-cons}
use Rattle.ic_laws.proofs.parsing.Soundness.{Good, Sound, option_map_some, followed_some, past_separator_some, past_close_some, ItemSound, ListSound, listed_sound}
use Rattle.ic_laws.proofs.core.Steps.{and_true as both_hold}

-- an argument that is read is well-formed, with few enough brackets
abbrev pub ArgumentGood : DialectMeaning → ℕ → Spelled → Type 0
ArgumentGood d b t = AllWell d t × (open_brackets t ≤ b)

pub argument_sound : (d : DialectMeaning) (most : ℕ) (below : Reader) → Sound d most below → (b : ℕ) (ts : List Token) (read : Spelled × List Token) → argument below b ts ≡ Some read → (ts ≡ yield d read.0 ++ read.1) × ArgumentGood d b read.0
unfolding argument
argument_sound d most below sound b ts read e = at (ends_argument ts) e
  where
    at : (ends : Bool) → (if ends then Some (node one.Empty, ts) else below b 1 ts) ≡ Some read → (ts ≡ yield d read.0 ++ read.1) × ArgumentGood d b read.0
    at true h = subst (λ (p : Spelled × List Token). (ts ≡ yield d p.0 ++ p.1) × ArgumentGood d b p.0) (same_Some (node one.Empty, ts) read h) (
      ap (λ (xs : List Token). xs ++ ts) (sym (yield-node d one.Empty)),
      (well_made d one.Empty (record { operands = tt; called = tt; arguments = tt; parts = tt; elements = tt; unsigned = tt; words = tt; places = tt }) tt, omega (arith, brackets-node one.Empty)),
    )
    at false h = let good : Good d most b 1 ts read = sound.good b 1 ts read (omega arith) h in (good.tokens, (good.well, good.few))

arguments_item : (d : DialectMeaning) (most : ℕ) (below : Reader) → Sound d most below → (b : ℕ) → ItemSound (argument below b) past_separator Separator (yield d) (ArgumentGood d b)
arguments_item d most below sound b = record {
  tokens_of = λ ts read e. let found = argument_sound d most below sound b ts read e in found.0;
  holds = λ ts read e. let found = argument_sound d most below sound b ts read e in found.1;
  sign = past_separator_some;
}

-- arguments that don't begin with the bracket that ends them aren't the one that is left out
are_arguments_read : (d : DialectMeaning) (ts : List Spelled) (all : List Token) (rest : List Token) → past_close all ≡ None → all ≡ joined Separator (map (yield d) ts) ++ Close ∷ rest → is_argument_list ts ≡ true
are_arguments_read d [] all rest none e = refl
are_arguments_read d (t ∷ []) all rest none e = elim (cases_Bool (is_empty t)) [
  | inl h ↦ let no : Some rest ≡ None = sym (ap (λ (xs : List Token). past_close (xs ++ Close ∷ rest)) (empty_yields d t h)) ∙ (sym (ap past_close e) ∙ none) in cc
  | inr h ↦ rw h refl
]
are_arguments_read d (t ∷ u ∷ us) all rest none e = refl

pub record ArgumentsGood (d : DialectMeaning) (b : ℕ) (ts : List Token) (read : List Spelled × List Token) : Type 0 where
  pub tokens : ts ≡ joined Separator (map (yield d) read.0) ++ Close ∷ [] ++ read.1
  pub well : AllByRecursion (AllWell d) read.0
  pub few : greatest (map open_brackets read.0) ≤ b
  pub arguments : is_argument_list read.0 ≡ true

all_well : (d : DialectMeaning) (b : ℕ) (ts : List Spelled) → AllByRecursion (ArgumentGood d b) ts → AllByRecursion (AllWell d) ts
all_well d b [] all = tt
all_well d b (t ∷ ts) all = (all.0.0, all_well d b ts all.1)

all_few : (d : DialectMeaning) (b : ℕ) (ts : List Spelled) → AllByRecursion (ArgumentGood d b) ts → greatest (map open_brackets ts) ≤ b
all_few d b [] all = omega arith
all_few d b (t ∷ ts) all = omega (arith, all.0.1, all_few d b ts all.1)

pub arguments_sound : (d : DialectMeaning) (most : ℕ) (below : Reader) → Sound d most below → (b : ℕ) (ts : List Token) (read : List Spelled × List Token) → arguments below b ts ≡ Some read → ArgumentsGood d b ts read
unfolding arguments
arguments_sound d most below sound b ts read e = at (past_close ts) refl e
  where
    at : (o : Option (List Token)) → past_close ts ≡ o → elim o [
      | Some rest ↦ Some ([], rest)
      | None ↦ followed past_close (listed (argument below b) past_separator (length ts) ts)
    ] ≡ Some read → ArgumentsGood d b ts read
    at (Some rest) is h = subst (ArgumentsGood d b ts) (same_Some ([], rest) read h) (record { tokens = past_close_some ts rest is; well = tt; few = omega arith; arguments = refl })
    at None is h =
        followed_some past_close _ read h (λ after got closed.
        let list : ListSound (argument below b) past_separator Separator (yield d) (ArgumentGood d b) ts (read.0, after) =
        listed_sound (argument below b) past_separator Separator (yield d) (ArgumentGood d b) (arguments_item d most below sound b) (length ts) ts (read.0, after) got in
        let unread : after ≡ Close ∷ read.1 = past_close_some after read.1 closed in
        let whole : ts ≡ joined Separator (map (yield d) read.0) ++ Close ∷ read.1 = list.whole ∙ ap (λ (xs : List Token). joined Separator (map (yield d) read.0) ++ xs) unread in
        record {
          tokens = whole ∙ sym (append_assoc (joined Separator (map (yield d) read.0)) (Close ∷ []) read.1);
          well = all_well d b read.0 list.all;
          few = all_few d b read.0 list.all;
          arguments = are_arguments_read d read.0 ts read.1 is whole;
        })

pub binder_some : (ts : List Token) (read : List ℕ × List Token) → binder ts ≡ Some read → (ts ≡ Word read.0 ∷ Separator ∷ read.1) × (is_variable read.0 ≡ true)
unfolding binder
binder_some (Word name ∷ Separator ∷ rest) read e =
    let parts = cond_some (is_variable name) (name, rest) read e in
    subst (λ (p : List ℕ × List Token). (Word name ∷ Separator ∷ rest ≡ Word p.0 ∷ Separator ∷ p.1) × (is_variable p.0 ≡ true)) parts.1 (refl, parts.0)
binder_some ts read e = cc

-- a body with the bracket after it
pub record BodyGood (d : DialectMeaning) (b : ℕ) (ts : List Token) (read : Spelled × List Token) : Type 0 where
  pub tokens : ts ≡ yield d read.0 ++ Close ∷ read.1
  pub well : AllWell d read.0
  pub there : is_empty read.0 ≡ false
  pub few : open_brackets read.0 ≤ b

pub body_sound : (d : DialectMeaning) (most : ℕ) (below : Reader) → Sound d most below → (b : ℕ) (ts : List Token) (read : Spelled × List Token) → followed past_close (below b 1 ts) ≡ Some read → BodyGood d b ts read
body_sound d most below sound b ts read e =
    followed_some past_close (below b 1 ts) read e (λ after got closed.
    let good : Good d most b 1 ts (read.0, after) = sound.good b 1 ts (read.0, after) (omega arith) got in
    record {
      tokens = good.tokens ∙ ap (λ (xs : List Token). yield d read.0 ++ xs) (past_close_some after read.1 closed);
      well = good.well;
      there = good.there;
      few = good.few;
    })

pub record LetGood (d : DialectMeaning) (b : ℕ) (ts : List Token) (read : (List Pair × Spelled) × List Token) : Type 0 where
  pub tokens : ts ≡ let_tokens d read.0.0 read.0.1 ++ Close ∷ read.1
  pub pairs : AllByRecursion (PairAllWell d) read.0.0
  pub well : AllWell d read.0.1
  pub there : is_empty read.0.1 ≡ false
  pub few : max (greatest (map (λ pair. open_brackets pair.value) read.0.0)) (open_brackets read.0.1) ≤ b

let_more : (d : DialectMeaning) (most : ℕ) (below : Reader) → Sound d most below → (b : ℕ) (ts : List Token) (begun : List ℕ × List Token) (value : Spelled × List Token) (parts : (List Pair × Spelled) × List Token) → binder ts ≡ Some begun → followed past_separator (below b 1 begun.1) ≡ Some value → LetGood d b value.1 parts
    → LetGood d b ts ((pair_of begun.0 value.0 ∷ parts.0.0, parts.0.1), parts.1)
let_more d most below sound b ts begun value parts begins e more =
    followed_some past_separator (below b 1 begun.1) value e (λ after got unread.
    let good : Good d most b 1 begun.1 (value.0, after) = sound.good b 1 begun.1 (value.0, after) (omega arith) got in
    let start = binder_some ts begun begins in
    record {
      tokens =
          start.0
          ∙ ap (λ (xs : List Token). Word begun.0 ∷ Separator ∷ xs) (good.tokens ∙ ap (λ (xs : List Token). yield d value.0 ++ xs) (past_separator_some after value.1 unread ∙ ap (λ (xs : List Token). Separator ∷ xs) more.tokens))
          ∙ sym (let_tokens-cons d (pair_of begun.0 value.0) parts.0.0 parts.0.1 (Close ∷ parts.1));
      pairs = (pair_made d begun.0 value.0 start.1 good.there good.well, more.pairs);
      well = more.well;
      there = more.there;
      few = omega (arith, more.few, good.few);
    })

pub let_parts_sound : (d : DialectMeaning) (most : ℕ) (below : Reader) → Sound d most below → (b fuel : ℕ) (ts : List Token) (read : (List Pair × Spelled) × List Token) → let_parts below b fuel ts ≡ Some read → LetGood d b ts read
unfolding let_parts
let_parts_sound d most below sound b zero ts read e = cc
let_parts_sound d most below sound b (suc fuel) ts read e = at (λ rest parts got. let_parts_sound d most below sound b fuel rest parts got) (binder ts) refl e
  where
    at : ((rest : List Token) (parts : (List Pair × Spelled) × List Token) → let_parts below b fuel rest ≡ Some parts → LetGood d b rest parts) → (o : Read (List ℕ)) → binder ts ≡ o → elim o [
      | Some begun ↦ option_and_then
          (λ value. option_map (λ parts. ((pair_of begun.0 value.0 ∷ parts.0.0, parts.0.1), parts.1)) (let_parts below b fuel value.1))
          (followed past_separator (below b 1 begun.1))
      | None ↦ option_map (λ body. (([], body.0), body.1)) (followed past_close (below b 1 ts))
    ] ≡ Some read → LetGood d b ts read
    at again None is h =
        option_map_some _ (followed past_close (below b 1 ts)) read h (λ body got same.
        let good : BodyGood d b ts body = body_sound d most below sound b ts body got in
        subst (LetGood d b ts) same (record { tokens = good.tokens; pairs = tt; well = good.well; there = good.there; few = omega (arith, good.few) }))
    at again (Some begun) is h =
        option_and_then_some _ (followed past_separator (below b 1 begun.1)) read h (λ value got more.
        option_map_some _ (let_parts below b fuel value.1) read more (λ parts others same.
        subst (LetGood d b ts) same (let_more d most below sound b ts begun value parts is got (again value.1 parts others))))

pub record LambdaGood (d : DialectMeaning) (b : ℕ) (ts : List Token) (read : (List (List ℕ) × Spelled) × List Token) : Type 0 where
  pub tokens : ts ≡ lambda_tokens d read.0.0 read.0.1 ++ Close ∷ read.1
  pub names : list_all is_variable read.0.0 ≡ true
  pub well : AllWell d read.0.1
  pub there : is_empty read.0.1 ≡ false
  pub few : open_brackets read.0.1 ≤ b

lambda_more : (d : DialectMeaning) (b : ℕ) (ts : List Token) (begun : List ℕ × List Token) (parts : (List (List ℕ) × Spelled) × List Token) → binder ts ≡ Some begun → LambdaGood d b begun.1 parts → LambdaGood d b ts ((begun.0 ∷ parts.0.0, parts.0.1), parts.1)
lambda_more d b ts begun parts begins more =
    let start = binder_some ts begun begins in
    record {
      tokens = start.0 ∙ ap (λ (xs : List Token). Word begun.0 ∷ Separator ∷ xs) more.tokens ∙ sym (lambda_tokens-cons d begun.0 parts.0.0 parts.0.1 (Close ∷ parts.1));
      names = both_hold (is_variable begun.0) (list_all is_variable parts.0.0) start.1 more.names;
      well = more.well;
      there = more.there;
      few = more.few;
    }

pub lambda_parts_sound : (d : DialectMeaning) (most : ℕ) (below : Reader) → Sound d most below → (b fuel : ℕ) (ts : List Token) (read : (List (List ℕ) × Spelled) × List Token) → lambda_parts below b fuel ts ≡ Some read → LambdaGood d b ts read
unfolding lambda_parts
lambda_parts_sound d most below sound b zero ts read e = cc
lambda_parts_sound d most below sound b (suc fuel) ts read e = at (λ rest parts got. lambda_parts_sound d most below sound b fuel rest parts got) (binder ts) refl e
  where
    at : ((rest : List Token) (parts : (List (List ℕ) × Spelled) × List Token) → lambda_parts below b fuel rest ≡ Some parts → LambdaGood d b rest parts) → (o : Read (List ℕ)) → binder ts ≡ o → elim o [
      | Some begun ↦ option_map (λ parts. ((begun.0 ∷ parts.0.0, parts.0.1), parts.1)) (lambda_parts below b fuel begun.1)
      | None ↦ option_map (λ body. (([], body.0), body.1)) (followed past_close (below b 1 ts))
    ] ≡ Some read → LambdaGood d b ts read
    at again None is h =
        option_map_some _ (followed past_close (below b 1 ts)) read h (λ body got same.
        let good : BodyGood d b ts body = body_sound d most below sound b ts body got in
        subst (LambdaGood d b ts) same (record { tokens = good.tokens; names = refl; well = good.well; there = good.there; few = good.few }))
    at again (Some begun) is h =
        option_map_some _ (lambda_parts below b fuel begun.1) read h (λ parts others same. subst (LambdaGood d b ts) same (lambda_more d b ts begun parts is (again begun.1 parts others)))
