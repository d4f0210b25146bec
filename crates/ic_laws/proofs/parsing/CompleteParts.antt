-- A well-formed tree is read back from its tokens: LET, LAMBDA and arrays.
use Rattle.std.proofs.Common.{◌≡◌, ◌≢◌, inl, inr, ℕ, zero, suc, ◌+◌, ◌<◌, ◌≤◌, max, List, [], ◌∷◌, ◌++◌, length, length-append, append_assoc, Some, None, true, false, nat_eq, refl, sym, ap, subst, ◌∙◌, map, arith}
use Rattle.std.proofs.lemmas.Bool.{cases_Bool, le-leb, ne_eqb, eq-eqb, and_parts}
use Rattle.std.specs.List.{AllByRecursion, list_all}
use Rattle.ic_laws.specs.Greatest.{greatest}
use Rattle.ic_laws.specs.Name.{is_variable}
use Rattle.ic_laws.specs.Dialect.{DialectMeaning}
use Rattle.ic_laws.specs.Parse.{node, Pair, past_separator, past_brace, past_row_sign, followed, listed, binder, let_parts, lambda_parts, let_call, lambda_call, function_call, constant, row, array, primary, prefix_sign, reader}
use Rattle.ic_laws.specs.Token.{Token, Word, FunHead, Separator, Close, OpenBrace, CloseBrace}
use Rattle.ic_laws.specs.Tree.{Spelled, height, open_brackets, is_unsigned_constant, has_constant}
use Rattle.ic_laws.specs.Yield.{joined, row_sign, constant_tokens, row_tokens, pair_parts, yield}
use Rattle.ic_laws.specs.declared.tree.Constant.{Constant}
use Rattle.ic_laws.specs.declared.tree.Constant.TheVariants as constants
use Rattle.ic_laws.specs.declared.tree.Tree.TheOpen as one
use Rattle.ic_laws.proofs.parsing.Nodes.{WellKind, pair_tokens, yield-node, height-node, brackets-node, level-node, level_positive}
use Rattle.ic_laws.proofs.parsing.ReadLemmas.{ItemReads, SignReads, listed_reads, joined_long}
use Rattle.ic_laws.proofs.parsing.Completeness.{ReadsBack, Wide, Complete, back, complete_primary}
use Rattle.ic_laws.proofs.parsing.CompleteCalls.{no_binder}

-- a pair of LET whose value is read back, or may be
abbrev PairReads : DialectMeaning → ℕ → ℕ → Pair → Type 0
PairReads d most b pair = (is_variable pair.variable ≡ true) × ReadsBack d most b pair.value

abbrev pub PairWide : DialectMeaning → Pair → Type 0
PairWide d pair = (is_variable pair.variable ≡ true) × Wide d pair.value

pairs_back : (d : DialectMeaning) (most b : ℕ) (pairs : List Pair) → AllByRecursion (PairWide d) pairs → greatest (map (λ pair. height pair.value) pairs) ≤ most → greatest (map (λ pair. open_brackets pair.value) pairs) ≤ b → AllByRecursion (PairReads d most b) pairs
pairs_back d most b [] all low few = tt
pairs_back d most b (pair ∷ pairs) all low few = ((all.0.0, back d pair.value all.0.1 most b (omega arith) (omega arith)), pairs_back d most b pairs all.1 (omega arith) (omega arith))

joined_more : (between : Token) (part : List Token) (parts : List (List Token)) (last : List Token) → joined between (part ∷ (parts ++ last ∷ [])) ≡ part ++ between ∷ joined between (parts ++ last ∷ [])
joined_more between part [] last = refl
joined_more between part (next ∷ parts) last = refl

-- the tokens of pairs and a body, of parameters and a body
abbrev pub let_tokens : DialectMeaning → List Pair → Spelled → List Token
let_tokens d pairs body = joined Separator (pair_parts (map (pair_tokens d) pairs) ++ yield d body ∷ [])

abbrev pub lambda_tokens : DialectMeaning → List (List ℕ) → Spelled → List Token
lambda_tokens d parameters body = joined Separator (map (λ p. Word p ∷ []) parameters ++ yield d body ∷ [])

pub let_tokens-cons : (d : DialectMeaning) (pair : Pair) (pairs : List Pair) (body : Spelled) (rest : List Token) → let_tokens d (pair ∷ pairs) body ++ rest ≡ Word pair.variable ∷ Separator ∷ (yield d pair.value ++ Separator ∷ (let_tokens d pairs body ++ rest))
let_tokens-cons d pair pairs body rest =
    ap (λ (ts : List Token). Word pair.variable ∷ Separator ∷ (ts ++ rest)) (joined_more Separator (yield d pair.value) (pair_parts (map (pair_tokens d) pairs)) (yield d body))
    ∙ ap (λ (ts : List Token). Word pair.variable ∷ Separator ∷ ts) (append_assoc (yield d pair.value) (Separator ∷ let_tokens d pairs body) rest)

pub lambda_tokens-cons : (d : DialectMeaning) (name : List ℕ) (names : List (List ℕ)) (body : Spelled) (rest : List Token) → lambda_tokens d (name ∷ names) body ++ rest ≡ Word name ∷ Separator ∷ (lambda_tokens d names body ++ rest)
lambda_tokens-cons d name names body rest = ap (λ (ts : List Token). ts ++ rest) (joined_more Separator (Word name ∷ []) (map (λ p. Word p ∷ []) names) (yield d body))

let_long : (d : DialectMeaning) (pairs : List Pair) (body : Spelled) (rest : List Token) → length pairs + length rest ≤ length (let_tokens d pairs body ++ rest)
let_long d [] body rest = omega (arith, length-append (yield d body) rest)
let_long d (pair ∷ pairs) body rest =
    omega (arith, let_long d pairs body rest, ap length (let_tokens-cons d pair pairs body rest), length-append (yield d pair.value) (Separator ∷ (let_tokens d pairs body ++ rest)))

lambda_long : (d : DialectMeaning) (names : List (List ℕ)) (body : Spelled) (rest : List Token) → length names + length rest ≤ length (lambda_tokens d names body ++ rest)
lambda_long d [] body rest = omega (arith, length-append (yield d body) rest)
lambda_long d (name ∷ names) body rest = omega (arith, lambda_long d names body rest, ap length (lambda_tokens-cons d name names body rest))

binder_takes : (name : List ℕ) (rest : List Token) → is_variable name ≡ true → binder (Word name ∷ Separator ∷ rest) ≡ Some (name, rest)
unfolding binder
binder_takes name rest good = rw good refl

let_parts_read : (d : DialectMeaning) (most b : ℕ) (pairs : List Pair) (body : Spelled) (rest : List Token) → AllByRecursion (PairReads d most b) pairs → ReadsBack d most b body → (fuel : ℕ) → length pairs < fuel → let_parts (reader d most) b fuel (let_tokens d pairs body ++ Close ∷ rest) ≡ Some ((pairs, body), rest)
unfolding let_parts
let_parts_read d most b pairs body rest all last zero long = absurd (omega arith)
let_parts_read d most b [] body rest all last (suc fuel) long =
    let read : reader d most b 1 (yield d body ++ Close ∷ rest) ≡ Some (body, Close ∷ rest) = last.reads 1 (Close ∷ rest) (level_positive body) tt in
    rw (no_binder d most b (yield d body ++ Close ∷ rest) body rest read, let_parts, read) refl
let_parts_read d most b (pair ∷ pairs) body rest all last (suc fuel) long =
    let more : List Token = let_tokens d pairs body ++ Close ∷ rest in
    let read : reader d most b 1 (yield d pair.value ++ Separator ∷ more) ≡ Some (pair.value, Separator ∷ more) = all.0.1.reads 1 (Separator ∷ more) (level_positive pair.value) tt in
    let others : let_parts (reader d most) b fuel more ≡ Some ((pairs, body), rest) = let_parts_read d most b pairs body rest all.1 last fuel (omega arith) in
    rw (let_tokens-cons d pair pairs body (Close ∷ rest), binder_takes pair.variable (yield d pair.value ++ Separator ∷ more) all.0.0, let_parts, read, others) refl

lambda_parts_read : (d : DialectMeaning) (most b : ℕ) (names : List (List ℕ)) (body : Spelled) (rest : List Token) → list_all is_variable names ≡ true → ReadsBack d most b body → (fuel : ℕ) → length names < fuel → lambda_parts (reader d most) b fuel (lambda_tokens d names body ++ Close ∷ rest) ≡ Some ((names, body), rest)
unfolding lambda_parts
lambda_parts_read d most b names body rest all last zero long = absurd (omega arith)
lambda_parts_read d most b [] body rest all last (suc fuel) long =
    let read : reader d most b 1 (yield d body ++ Close ∷ rest) ≡ Some (body, Close ∷ rest) = last.reads 1 (Close ∷ rest) (level_positive body) tt in
    rw (no_binder d most b (yield d body ++ Close ∷ rest) body rest read, lambda_parts, read) refl
lambda_parts_read d most b (name ∷ names) body rest all last (suc fuel) long =
    let more : List Token = lambda_tokens d names body ++ Close ∷ rest in
    let parts = and_parts (is_variable name) (list_all is_variable names) all in
    let others : lambda_parts (reader d most) b fuel more ≡ Some ((names, body), rest) = lambda_parts_read d most b names body rest parts.1 last fuel (omega arith) in
    rw (lambda_tokens-cons d name names body (Close ∷ rest), binder_takes name more parts.0, lambda_parts, others) refl

pub complete-Let : (d : DialectMeaning) (pairs : List Pair) (body : Spelled) → WellKind d (one.Let pairs body) → AllByRecursion (PairWide d) pairs → Wide d body → Complete d (node (one.Let pairs body))
unfolding primary prefix_sign function_call let_call
complete-Let d [] body well all wide = absurd (well.elements refl)
complete-Let d (pair ∷ pairs) body well all wide = complete_primary d (one.Let (pair ∷ pairs) body) (record {
  token = FunHead d.let_fn;
  following = let_tokens d (pair ∷ pairs) body ++ Close ∷ [];
  tokens = yield-node d (one.Let (pair ∷ pairs) body);
  seven = omega (arith, level-node (one.Let (pair ∷ pairs) body));
  no_sign = refl;
  reads = λ most b rest low few.
      subst (λ (ts : List Token). primary d (suc most) (reader d most) b (FunHead d.let_fn) ts ≡ Some (node (one.Let (pair ∷ pairs) body), rest)) (sym (append_assoc (let_tokens d (pair ∷ pairs) body) (Close ∷ []) rest)) (within most b rest low (omega (arith, few, brackets-node (one.Let (pair ∷ pairs) body))));
})
  where
    within : (most b : ℕ) (rest : List Token) → height (node (one.Let (pair ∷ pairs) body)) ≤ suc most → max (greatest (map (λ pair. open_brackets pair.value) (pair ∷ pairs))) (open_brackets body) + 1 ≤ b → primary d (suc most) (reader d most) b (FunHead d.let_fn) (let_tokens d (pair ∷ pairs) body ++ Close ∷ rest) ≡ Some (node (one.Let (pair ∷ pairs) body), rest)
    within most zero rest low few = absurd (omega arith)
    within most (suc b) rest low few =
        let higher : height (node (one.Let (pair ∷ pairs) body)) ≡ max (greatest (map (λ pair. height pair.value) (pair ∷ pairs))) (height body) + 1 = height-node (one.Let (pair ∷ pairs) body) in
        let all_back : AllByRecursion (PairReads d most b) (pair ∷ pairs) = pairs_back d most b (pair ∷ pairs) all (omega arith) (omega arith) in
        let body_back : ReadsBack d most b body = back d body wide most b (omega arith) (omega arith) in
        let long : length (pair ∷ pairs) < length (let_tokens d (pair ∷ pairs) body ++ Close ∷ rest) = omega (arith, let_long d (pair ∷ pairs) body (Close ∷ rest)) in
        rw (
          eq-eqb d.let_fn d.let_fn refl,
          let_parts_read d most b (pair ∷ pairs) body rest all_back body_back (length (let_tokens d (pair ∷ pairs) body ++ Close ∷ rest)) long,
          le-leb (height (node (one.Let (pair ∷ pairs) body))) (suc most) low,
        ) refl

pub complete-Lambda : (d : DialectMeaning) → d.let_fn ≢ d.lambda_fn → (names : List (List ℕ)) (body : Spelled) → WellKind d (one.Lambda names body) → Wide d body → Complete d (node (one.Lambda names body))
unfolding primary prefix_sign function_call lambda_call
complete-Lambda d differ names body well wide = complete_primary d (one.Lambda names body) (record {
  token = FunHead d.lambda_fn;
  following = lambda_tokens d names body ++ Close ∷ [];
  tokens = yield-node d (one.Lambda names body);
  seven = omega (arith, level-node (one.Lambda names body));
  no_sign = refl;
  reads = λ most b rest low few.
      rw (append_assoc (lambda_tokens d names body) (Close ∷ []) rest) (within most b rest low (omega (arith, few, brackets-node (one.Lambda names body))));
})
  where
    within : (most b : ℕ) (rest : List Token) → height (node (one.Lambda names body)) ≤ suc most → open_brackets body + 1 ≤ b → primary d (suc most) (reader d most) b (FunHead d.lambda_fn) (lambda_tokens d names body ++ Close ∷ rest) ≡ Some (node (one.Lambda names body), rest)
    within most zero rest low few = absurd (omega arith)
    within most (suc b) rest low few =
        let body_back : ReadsBack d most b body = back d body wide most b (omega (arith, low, height-node (one.Lambda names body))) (omega arith) in
        let long : length names < length (lambda_tokens d names body ++ Close ∷ rest) = omega (arith, lambda_long d names body (Close ∷ rest)) in
        rw (
          ne_eqb d.lambda_fn d.let_fn (λ e. differ (sym e)),
          eq-eqb d.lambda_fn d.lambda_fn refl,
          lambda_parts_read d most b names body rest well.words body_back (length (lambda_tokens d names body ++ Close ∷ rest)) long,
          le-leb (height (node (one.Lambda names body))) (suc most) low,
        ) refl

-- constants, rows and arrays
constant_reads : (c : Constant) (rest : List Token) → is_unsigned_constant c ≡ true → constant (constant_tokens c ++ rest) ≡ Some (c, rest)
constant_reads (constants.Num true units) rest good = rw good refl
constant_reads (constants.Num false units) rest good = rw good refl
constant_reads (constants.Str text) rest good = refl
constant_reads (constants.Bool value) rest good = refl
constant_reads (constants.Err fault) rest good = refl

constants_read : (cs : List Constant) → list_all is_unsigned_constant cs ≡ true → AllByRecursion (ItemReads constant past_separator Separator constant_tokens (λ rest. Unit {0})) cs
constants_read [] good = tt
constants_read (c ∷ cs) good =
    let parts = and_parts (is_unsigned_constant c) (list_all is_unsigned_constant cs) good in
    (record { reads = λ rest fine. constant_reads c rest parts.0 }, constants_read cs parts.1)

-- what stands after a row
abbrev EndsRow : List Token → Type 0
EndsRow rest = (past_separator rest ≡ None) × (0 < length rest)

row_reads : (cs : List Constant) (rest : List Token) → has_constant cs ≡ true → list_all is_unsigned_constant cs ≡ true → EndsRow rest → row (row_tokens cs ++ rest) ≡ Some (cs, rest)
row_reads [] rest some good ends = cc
row_reads (c ∷ cs) rest some good ends =
    let tokens : List Token = row_tokens (c ∷ cs) in
    let long : length (c ∷ cs) ≤ length (tokens ++ rest) =
    omega (arith, ends.1, joined_long constant past_separator Separator constant_tokens (λ rest. Unit {0}) c cs, length-append tokens rest) in
    listed_reads constant past_separator Separator constant_tokens (λ rest. Unit {0}) (record { taken = λ rest. refl; fine = λ rest. tt }) rest ends.0 tt c cs (constants_read (c ∷ cs) good) (length (tokens ++ rest)) long

rows_read : (d : DialectMeaning) (rows : List (List Constant)) → list_all has_constant rows ≡ true → list_all (list_all is_unsigned_constant) rows ≡ true → AllByRecursion (ItemReads row (past_row_sign d) (row_sign d) row_tokens EndsRow) rows
rows_read d [] some good = tt
rows_read d (r ∷ rows) some good =
    let somes = and_parts (has_constant r) (list_all has_constant rows) some in
    let goods = and_parts (list_all is_unsigned_constant r) (list_all (list_all is_unsigned_constant) rows) good in
    (record { reads = λ rest ends. row_reads r rest somes.0 goods.0 ends }, rows_read d rows somes.1 goods.1)

row_sign_reads : (d : DialectMeaning) → SignReads row (past_row_sign d) (row_sign d) row_tokens EndsRow
row_sign_reads d = elim (cases_Bool (nat_eq d.list 44)) [
  | inl same ↦ record { taken = λ rest. rw same (rw same refl); fine = λ rest. rw same (refl, omega arith) }
  | inr other ↦ record { taken = λ rest. rw other (rw other refl); fine = λ rest. rw other (refl, omega arith) }
]

rows_tokens_read : (d : DialectMeaning) (rows : List (List Constant)) (rest : List Token) → rows ≢ [] → list_all has_constant rows ≡ true → list_all (list_all is_unsigned_constant) rows ≡ true
    → followed past_brace (listed row (past_row_sign d) (length (joined (row_sign d) (map row_tokens rows) ++ CloseBrace ∷ rest)) (joined (row_sign d) (map row_tokens rows) ++ CloseBrace ∷ rest)) ≡ Some (rows, rest)
rows_tokens_read d [] rest some each good = absurd (some refl)
rows_tokens_read d (r ∷ rows) rest some each good =
    let tokens : List Token = joined (row_sign d) (map row_tokens (r ∷ rows)) in
    let long : length (r ∷ rows) ≤ length (tokens ++ CloseBrace ∷ rest) =
    omega (arith, joined_long row (past_row_sign d) (row_sign d) row_tokens EndsRow r rows, length-append tokens (CloseBrace ∷ rest)) in
    rw (listed_reads row (past_row_sign d) (row_sign d) row_tokens EndsRow (row_sign_reads d) (CloseBrace ∷ rest) refl (refl, omega arith) r rows (rows_read d (r ∷ rows) each good) (length (tokens ++ CloseBrace ∷ rest)) long) refl

pub complete-Array : (d : DialectMeaning) (rows : List (List Constant)) → WellKind d (one.Array rows) → Complete d (node (one.Array rows))
unfolding primary prefix_sign array
complete-Array d rows well = complete_primary d (one.Array rows) (record {
  token = OpenBrace;
  following = joined (row_sign d) (map row_tokens rows) ++ CloseBrace ∷ [];
  tokens = yield-node d (one.Array rows);
  seven = omega (arith, level-node (one.Array rows));
  no_sign = refl;
  reads = λ most b rest low few.
      rw (append_assoc (joined (row_sign d) (map row_tokens rows)) (CloseBrace ∷ []) rest) (within most b rest low (omega (arith, few, brackets-node (one.Array rows))));
})
  where
    within : (most b : ℕ) (rest : List Token) → height (node (one.Array rows)) ≤ suc most → 1 ≤ b → primary d (suc most) (reader d most) b OpenBrace (joined (row_sign d) (map row_tokens rows) ++ CloseBrace ∷ rest) ≡ Some (node (one.Array rows), rest)
    within most zero rest low few = absurd (omega arith)
    within most (suc b) rest low few = rw (rows_tokens_read d rows rest well.elements.0 well.elements.1 well.unsigned, le-leb (height (node (one.Array rows))) (suc most) low) refl
