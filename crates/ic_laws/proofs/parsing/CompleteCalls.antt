-- A well-formed tree is read back from its tokens: the kinds with arguments, parameters, pairs or rows.
use Rattle.std.proofs.Common.{◌≡◌, ◌⊎◌, inl, inr, ℕ, zero, suc, ◌+◌, ◌≤◌, List, [], ◌∷◌, ◌++◌, length, length-append, append_assoc, Some, None, Bool, true, not, refl, sym, subst, ◌∙◌, map, arith}
use Rattle.std.proofs.lemmas.Bool.{cases_Bool, le-leb, ne_eqb}
use Rattle.std.proofs.lemmas.Option.{some_pair_parts}
use Rattle.std.specs.List.{AllByRecursion}
use Rattle.ic_laws.specs.Greatest.{greatest}
use Rattle.ic_laws.specs.Name.{is_variable}
use Rattle.ic_laws.specs.Dialect.{DialectMeaning}
use Rattle.ic_laws.specs.Parse.{node, Read, past_separator, past_close, ends_argument, argument, arguments, binder, function_call, name_call, primary, postfix, applied, prefix_sign, reader}
use Rattle.ic_laws.specs.Token.{Token, Word, FunHead, NameHead, Separator, Open, Close}
use Rattle.ic_laws.specs.Tree.{Spelled, is_empty, is_callable, is_argument_list, height, open_brackets, is_called_name}
use Rattle.ic_laws.specs.Yield.{joined, yield}
use Rattle.ic_laws.specs.declared.tree.Tree.TheOpen as one
use Rattle.ic_laws.proofs.parsing.Nodes.{WellKind, yield-node, height-node, brackets-node, level-node, level_positive, empty_yields, empty_is}
use Rattle.ic_laws.proofs.parsing.ReadLemmas.{reader-zero, reader_begins, no_close, close_ends, ItemReads, SignReads, listed_reads, joined_long}
use Rattle.ic_laws.proofs.parsing.Completeness.{ReadsBack, Wide, Complete, back, complete_primary, complete_postfix, complete-Word}

-- an argument is left out or read back
abbrev pub ArgumentReads : DialectMeaning → ℕ → ℕ → Spelled → Type 0
ArgumentReads d most b t = (is_empty t ≡ true) ⊎ ReadsBack d most b t

-- what stands after an argument ends it
abbrev EndsArgument : List Token → Type 0
EndsArgument rest = ends_argument rest ≡ true

argument_empty : (d : DialectMeaning) (most b : ℕ) (t : Spelled) (rest : List Token) → is_empty t ≡ true → EndsArgument rest → argument (reader d most) b (yield d t ++ rest) ≡ Some (t, rest)
unfolding argument
argument_empty d most b t rest h end = rw (empty_yields d t h, end, empty_is t h) refl

argument_there : (d : DialectMeaning) (most b : ℕ) (t : Spelled) (rest : List Token) → ReadsBack d most b t → EndsArgument rest → argument (reader d most) b (yield d t ++ rest) ≡ Some (t, rest)
unfolding argument
argument_there d most b t rest back end =
    let read : reader d most b 1 (yield d t ++ rest) ≡ Some (t, rest) = back.reads 1 rest (level_positive t) (close_ends 1 rest end) in
    rw (reader_begins d most b 1 (yield d t ++ rest) (t, rest) read, read) refl

argument_reads : (d : DialectMeaning) (most b : ℕ) (t : Spelled) → ArgumentReads d most b t → ItemReads (argument (reader d most) b) past_separator Separator (yield d) EndsArgument t
argument_reads d most b t reads = record {
  reads = λ rest end. elim reads [ inl h ↦ argument_empty d most b t rest h end | inr back ↦ argument_there d most b t rest back end ];
}

separator_reads : (d : DialectMeaning) (most b : ℕ) → SignReads (argument (reader d most) b) past_separator Separator (yield d) EndsArgument
separator_reads d most b = record { taken = λ rest. refl; fine = λ rest. refl }

all_read : (d : DialectMeaning) (most b : ℕ) (ts : List Spelled) → AllByRecursion (ArgumentReads d most b) ts → AllByRecursion (ItemReads (argument (reader d most) b) past_separator Separator (yield d) EndsArgument) ts
all_read d most b [] all = tt
all_read d most b (t ∷ ts) all = (argument_reads d most b t all.0, all_read d most b ts all.1)

-- arguments don't begin with the bracket that ends them
no_close_first : (d : DialectMeaning) (most b : ℕ) (t : Spelled) (ts : List Spelled) (rest : List Token) → AllByRecursion (ArgumentReads d most b) (t ∷ ts) → is_argument_list (t ∷ ts) ≡ true → past_close (joined Separator (map (yield d) (t ∷ ts)) ++ Close ∷ rest) ≡ None
no_close_first d most b t [] rest all good = elim all.0 [
  | inl h ↦ let no : not (is_empty t) ≡ true = good in let no_more : not true ≡ true = subst (λ (e : Bool). not e ≡ true) h no in cc
  | inr back ↦ no_close _ (reader_begins d most b 1 _ _ (back.reads 1 (Close ∷ rest) (level_positive t) tt))
]
no_close_first d most b t (u ∷ us) rest all good =
    rw (append_assoc (yield d t) (Separator ∷ joined Separator (map (yield d) (u ∷ us))) (Close ∷ rest)) (elim all.0 [
      | inl h ↦ rw (empty_yields d t h) refl
      | inr back ↦ no_close _ (reader_begins d most b 1 _ _ (back.reads 1 (Separator ∷ (joined Separator (map (yield d) (u ∷ us)) ++ Close ∷ rest)) (level_positive t) tt))
    ])

pub arguments_read : (d : DialectMeaning) (most b : ℕ) (ts : List Spelled) (rest : List Token) → AllByRecursion (ArgumentReads d most b) ts → is_argument_list ts ≡ true → arguments (reader d most) b (joined Separator (map (yield d) ts) ++ Close ∷ rest) ≡ Some (ts, rest)
unfolding arguments
arguments_read d most b [] rest all good = refl
arguments_read d most b (t ∷ ts) rest all good =
    let tokens : List Token = joined Separator (map (yield d) (t ∷ ts)) in
    let long : length (t ∷ ts) ≤ length (tokens ++ Close ∷ rest) =
    omega (arith, joined_long (argument (reader d most) b) past_separator Separator (yield d) EndsArgument t ts, length-append tokens (Close ∷ rest)) in
    rw (
      no_close_first d most b t ts rest all good,
      listed_reads (argument (reader d most) b) past_separator Separator (yield d) EndsArgument (separator_reads d most b) (Close ∷ rest) refl refl t ts (all_read d most b (t ∷ ts) all) (length (tokens ++ Close ∷ rest)) long,
    ) refl

-- an argument is left out, or may be read back
abbrev pub ArgumentWide : DialectMeaning → Spelled → Type 0
ArgumentWide d t = (is_empty t ≡ true) ⊎ Wide d t

pub arguments_back : (d : DialectMeaning) (most b : ℕ) (ts : List Spelled) → AllByRecursion (ArgumentWide d) ts → greatest (map height ts) ≤ most → greatest (map open_brackets ts) ≤ b → AllByRecursion (ArgumentReads d most b) ts
arguments_back d most b [] all low few = tt
arguments_back d most b (t ∷ ts) all low few =
    let here : ArgumentReads d most b t = elim all.0 [ inl h ↦ inl h | inr wide ↦ inr (back d t wide most b (omega arith) (omega arith)) ] in
    (here, arguments_back d most b ts all.1 (omega arith) (omega arith))

pub complete-Fun : (d : DialectMeaning) (number : ℕ) (ts : List Spelled) → WellKind d (one.Fun number ts) → AllByRecursion (ArgumentWide d) ts → Complete d (node (one.Fun number ts))
unfolding primary prefix_sign function_call
complete-Fun d number ts well all = complete_primary d (one.Fun number ts) (record {
  token = FunHead number;
  following = joined Separator (map (yield d) ts) ++ Close ∷ [];
  tokens = yield-node d (one.Fun number ts);
  seven = omega (arith, level-node (one.Fun number ts));
  no_sign = refl;
  reads = λ most b rest low few.
      rw (append_assoc (joined Separator (map (yield d) ts)) (Close ∷ []) rest) (within most b rest low (omega (arith, few, brackets-node (one.Fun number ts))));
})
  where
    within : (most b : ℕ) (rest : List Token) → height (node (one.Fun number ts)) ≤ suc most → greatest (map open_brackets ts) + 1 ≤ b → primary d (suc most) (reader d most) b (FunHead number) (joined Separator (map (yield d) ts) ++ Close ∷ rest) ≡ Some (node (one.Fun number ts), rest)
    within most zero rest low few = absurd (omega arith)
    within most (suc b) rest low few =
        let all_back : AllByRecursion (ArgumentReads d most b) ts = arguments_back d most b ts all (omega (arith, low, height-node (one.Fun number ts))) (omega arith) in
        rw (ne_eqb number d.let_fn well.words.0, ne_eqb number d.lambda_fn well.words.1, arguments_read d most b ts rest all_back well.arguments, le-leb (height (node (one.Fun number ts))) (suc most) low) refl

pub complete-Call : (d : DialectMeaning) (name : List ℕ) (ts : List Spelled) → WellKind d (one.Call name ts) → AllByRecursion (ArgumentWide d) ts → Complete d (node (one.Call name ts))
unfolding primary prefix_sign name_call
complete-Call d name ts well all = complete_primary d (one.Call name ts) (record {
  token = NameHead name;
  following = joined Separator (map (yield d) ts) ++ Close ∷ [];
  tokens = yield-node d (one.Call name ts);
  seven = omega (arith, level-node (one.Call name ts));
  no_sign = refl;
  reads = λ most b rest low few.
      rw (append_assoc (joined Separator (map (yield d) ts)) (Close ∷ []) rest) (within most b rest low (omega (arith, few, brackets-node (one.Call name ts))));
})
  where
    within : (most b : ℕ) (rest : List Token) → height (node (one.Call name ts)) ≤ suc most → greatest (map open_brackets ts) + 1 ≤ b → primary d (suc most) (reader d most) b (NameHead name) (joined Separator (map (yield d) ts) ++ Close ∷ rest) ≡ Some (node (one.Call name ts), rest)
    within most zero rest low few = absurd (omega arith)
    within most (suc b) rest low few =
        let all_back : AllByRecursion (ArgumentReads d most b) ts = arguments_back d most b ts all (omega (arith, low, height-node (one.Call name ts))) (omega arith) in
        let called : is_called_name name ≡ true = well.words in
        rw (called, arguments_read d most b ts rest all_back well.arguments, le-leb (height (node (one.Call name ts))) (suc most) low) refl

applied_reads : (d : DialectMeaning) (most b : ℕ) (x : Spelled) (ts : List Spelled) (rest : List Token) → AllByRecursion (ArgumentWide d) ts → is_argument_list ts ≡ true → is_callable x ≡ true → height (node (one.Apply x ts)) ≤ suc most → greatest (map open_brackets ts) + 1 ≤ b
    → postfix (suc most) (reader d most) b x (Open ∷ (joined Separator (map (yield d) ts) ++ Close ∷ rest)) ≡ Some (Some (node (one.Apply x ts), rest))
unfolding postfix applied
applied_reads d most zero x ts rest all good called low few = absurd (omega arith)
applied_reads d most (suc b) x ts rest all good called low few =
    let all_back : AllByRecursion (ArgumentReads d most b) ts = arguments_back d most b ts all (omega (arith, low, height-node (one.Apply x ts))) (omega arith) in
    rw (called, arguments_read d most b ts rest all_back good, le-leb (height (node (one.Apply x ts))) (suc most) low) refl

pub complete-Apply : (d : DialectMeaning) (x : Spelled) (ts : List Spelled) → WellKind d (one.Apply x ts) → Complete d x → AllByRecursion (ArgumentWide d) ts → Complete d (node (one.Apply x ts))
complete-Apply d x ts well complete all = complete_postfix d (one.Apply x ts) (record {
  left = x;
  token = Open;
  following = joined Separator (map (yield d) ts) ++ Close ∷ [];
  tokens = yield-node d (one.Apply x ts) ∙ append_assoc (yield d x) (Open ∷ joined Separator (map (yield d) ts)) (Close ∷ []);
  seven = omega (arith, level-node (one.Apply x ts));
  tight = complete.tight well.operands;
  higher = omega (arith, height-node (one.Apply x ts));
  fewer = omega (arith, brackets-node (one.Apply x ts));
  turn = λ most b rest low few.
      rw (append_assoc (joined Separator (map (yield d) ts)) (Close ∷ []) rest)
      (applied_reads d most b x ts rest all well.arguments well.called low (omega (arith, few, brackets-node (one.Apply x ts))));
})

apart : (t u : Spelled) (rest after : List Token) → ◌≡◌ {A = Read Spelled} (Some (t, Close ∷ rest)) (Some (u, Separator ∷ after)) → ⊥
apart t u rest after e = let parts = some_pair_parts t u (Close ∷ rest) (Separator ∷ after) e in let same : Close ∷ rest ≡ Separator ∷ after = parts.1 in cc

-- what is read with a bracket after it has begun with no variable and separator
pub no_binder : (d : DialectMeaning) (most b : ℕ) (ts : List Token) (t : Spelled) (rest : List Token) → reader d most b 1 ts ≡ Some (t, Close ∷ rest) → binder ts ≡ None
unfolding binder
no_binder d most b (Word name ∷ Separator ∷ after) t rest e = elim (cases_Bool (is_variable name)) [
  | inl good ↦ absurd (word_first most good e)
  | inr bad ↦ rw bad refl
]
  where
    word_first : (most : ℕ) → is_variable name ≡ true → reader d most b 1 (Word name ∷ Separator ∷ after) ≡ Some (t, Close ∷ rest) → ⊥
    word_first zero good e = let none : reader d zero b 1 (Word name ∷ Separator ∷ after) ≡ None = reader-zero d b 1 _ in cc
    word_first (suc most) good e =
        let word : Spelled = node (one.Word name) in
        let whole : Complete d word = complete-Word d name good in
        let reads : ReadsBack d (suc most) b word = back d word whole.wide (suc most) b (omega (arith, height-node (one.Word name))) (omega (arith, brackets-node (one.Word name))) in
        let read : reader d (suc most) b 1 (yield d word ++ Separator ∷ after) ≡ Some (word, Separator ∷ after) = reads.reads 1 (Separator ∷ after) (level_positive word) tt in
        let same : yield d word ≡ Word name ∷ [] = yield-node d (one.Word name) in
        let again : reader d (suc most) b 1 (Word name ∷ Separator ∷ after) ≡ Some (word, Separator ∷ after) = subst (λ (ts : List Token). reader d (suc most) b 1 (ts ++ Separator ∷ after) ≡ Some (word, Separator ∷ after)) same read in
        apart t word rest after (sym e ∙ again)
no_binder d most b ts t rest e = refl
