-- The tokens of a tree that fits are a chain, so its canonical text falls into just these tokens.
use Rattle.std.proofs.Common.{int_le, ◌≡◌, ◌≢◌, ℕ, ℤ, pos, negsuc, List, [], ◌∷◌, ◌++◌, Bool, true, false, ◌||◌, ◌==◌, ◌⊎◌, map, Option, Some, None, IsNone, refl, sym, ◌∙◌, ap, subst, inl, inr, arith, append_assoc, append-nil}
use Rattle.std.specs.List.{list_all, AllByRecursion}
use Rattle.std.proofs.lemmas.Bool.{and_parts}
use Rattle.std.proofs.lemmas.Bool.Decides.{nat_tests}
use Rattle.ic_laws.specs.Scan.{first_is}
use Rattle.ic_laws.specs.Name.{is_variable}
use Rattle.ic_laws.proofs.tokens.Lexing.{tokens_of_complete}
use Rattle.ic_laws.proofs.printing.Signs.{or_neither}
use Rattle.ic_laws.specs.Amount.{is_amount}
use Rattle.ic_laws.specs.Dialect.{DialectMeaning, IsLawful}
use Rattle.ic_laws.specs.Parse.{SpelledKind, node, Pair, pair_of}
use Rattle.ic_laws.specs.Reading.{Fits, FitsKind, FitsPair, Reads, printed}
use Rattle.ic_laws.specs.Token.{Token, Num, Word, Separator, Operator, Percent, Hash, Open, Close, CloseBrace, Semicolon, Lexes}
use Rattle.ic_laws.specs.Tree.{Spelled, is_empty, is_empty_kind, is_callable, is_callable_kind, is_unsigned, is_unsigned_constant}
use Rattle.ic_laws.specs.Yield.{constant_tokens, joined, pair_parts, prefix_token, row_sign, row_tokens, yield_step, yield}
use Rattle.ic_laws.specs.declared.dialect.WordKind.TheVariants as kinds
use Rattle.ic_laws.specs.declared.tree.BinarySign.{BinarySign}
use Rattle.ic_laws.specs.declared.tree.BinarySign.TheVariants as signs
use Rattle.ic_laws.specs.declared.tree.Constant.{Constant}
use Rattle.ic_laws.specs.declared.tree.Constant.TheVariants as constants
use Rattle.ic_laws.specs.declared.tree.LetPair.{every-LetPair, every_here-LetPair}
use Rattle.ic_laws.specs.declared.tree.PrefixSign.{PrefixSign}
use Rattle.ic_laws.specs.declared.tree.PrefixSign.TheVariants as prefixes
use Rattle.ic_laws.specs.declared.tree.Tree.{every-Tree}
use Rattle.ic_laws.specs.declared.tree.Tree.TheOpen as one
use Rattle.ic_laws.proofs.parsing.Nodes.{here_of, below_of, value_of, OfChildren, by_nodes, WellKind, AllWell, PairAllWell, well_here, well_below, pair_here, pair_below, pair_tokens, with_tokens, yield-node, empty-node, callable-node}
use Rattle.ic_laws.specs.NextToken.{tokens_of}
use Rattle.ic_laws.specs.Following.{CanSpell, MayFollow, IsChain, spelled_out}
use Rattle.ic_laws.proofs.printing.Ends.{is_after, follows, follows_ends, NoComparison, number_no_sign, word_no_sign, boolean_no_sign, error_no_sign, local_no_sign, reference_no_sign, fun_head_no_sign, name_head_no_sign}
use Rattle.ic_laws.proofs.printing.Operands.{chain_read}

all_apply : {A : Type 0} (P Q : A → Type 0) (xs : List A) → AllByRecursion (λ a. P a → Q a) xs → AllByRecursion P xs → AllByRecursion Q xs
all_apply P Q [] f h = tt
all_apply P Q (x ∷ xs) f h = (f.0 h.0, all_apply P Q xs f.1 h.1)

children_apply : (A B : Spelled → Type 0) (C D : Pair → Type 0) (kind : SpelledKind) → OfChildren (λ t. A t → B t) (λ p. C p → D p) kind → OfChildren A C kind → OfChildren B D kind
children_apply A B C D (one.Paren x) f h = f h
children_apply A B C D (one.Prefix sign x) f h = f h
children_apply A B C D (one.Percent x) f h = f h
children_apply A B C D (one.Spill x) f h = f h
children_apply A B C D (one.Binary sign a b) f h = (f.0 h.0, f.1 h.1)
children_apply A B C D (one.Fun number arguments) f h = all_apply A B arguments f h
children_apply A B C D (one.Call word arguments) f h = all_apply A B arguments f h
children_apply A B C D (one.Let pairs body) f h = (all_apply C D pairs f.0 h.0, f.1 h.1)
children_apply A B C D (one.Lambda parameters body) f h = f h
children_apply A B C D (one.Apply x arguments) f h = (f.0 h.0, all_apply A B arguments f.1 h.1)
children_apply A B C D kind f h = tt

-- What is shown of each tree, of its tokens before those that may go on.
abbrev MayGoOn : Bool → List Token → Type 0
MayGoOn callable more = (callable ≡ true) ⊎ (follows more ≡ true)

record IsPrinted (d : DialectMeaning) (callable empty : Bool) (ts : List Token) : Type 0 where
  pub chain : (more : List Token) → IsChain d more → MayGoOn callable more → IsChain d (ts ++ more)
  pub begins : empty ≡ false → (more : List Token) → NoComparison d (ts ++ more)

abbrev Printed : DialectMeaning → Spelled → Type 0
Printed d t = IsPrinted d (is_callable t) (is_empty t) (yield d t)

record PairPrinted (d : DialectMeaning) (pair : Pair) : Type 0 where
  pub variable : CanSpell d (Word pair.variable)
  pub value : Printed d pair.value

-- parts, each of which goes on to what may follow
abbrev Part : DialectMeaning → List Token → Type 0
Part d ts = (more : List Token) → IsChain d more → follows more ≡ true → IsChain d (ts ++ more)

joined_part : (d : DialectMeaning) (between : Token) → CanSpell d between → ((rest : List ℕ) → MayFollow d between rest) → is_after between ≡ true → (parts : List (List Token)) → AllByRecursion (Part d) parts → Part d (joined between parts)
joined_part d between can may after [] h more c f = c
joined_part d between can may after (part ∷ []) h more c f = h.0 more c f
joined_part d between can may after (part ∷ next ∷ parts) h more c f =
    let rest = joined_part d between can may after (next ∷ parts) h.1 more c f in
    let whole = h.0 (between ∷ (joined between (next ∷ parts) ++ more)) (can, may _, rest) after in
    subst (IsChain d) (sym (append_assoc part (between ∷ joined between (next ∷ parts)) more)) whole

arguments_part : (d : DialectMeaning) (arguments : List Spelled) → AllByRecursion (Printed d) arguments → AllByRecursion (Part d) (map (yield d) arguments)
arguments_part d [] h = tt
arguments_part d (t ∷ ts) h = (λ more c f. h.0.chain more c (inr f), arguments_part d ts h.1)

word_part : (d : DialectMeaning) → IsLawful d → (word : List ℕ) → CanSpell d (Word word) → Part d (Word word ∷ [])
word_part d n word can more c f = let e = follows_ends d n more f in (can, (e.end, e.closed), c)

pairs_part : (d : DialectMeaning) → IsLawful d → (pairs : List Pair) (body : Spelled) → AllByRecursion (PairPrinted d) pairs → Printed d body → AllByRecursion (Part d) (pair_parts (map (pair_tokens d) pairs) ++ yield d body ∷ [])
pairs_part d n [] body h b = (λ more c f. b.chain more c (inr f), tt)
pairs_part d n (pair ∷ pairs) body h b = (word_part d n pair.variable h.0.variable, (λ more c f. h.0.value.chain more c (inr f), pairs_part d n pairs body h.1 b))

pub none_is : {T : Type 0} (o : Option T) → IsNone o → o ≡ None
none_is None h = refl
none_is (Some x) h = absurd (cc)

parameters_part : (d : DialectMeaning) → IsLawful d → (parameters : List (List ℕ)) (body : Spelled) → list_all is_variable parameters ≡ true → AllByRecursion (λ w. IsNone (d.find kinds.Boolean w)) parameters → Printed d body
    → AllByRecursion (Part d) (map (λ p. Word p ∷ []) parameters ++ yield d body ∷ [])
parameters_part d n [] body v h b = (λ more c f. b.chain more c (inr f), tt)
parameters_part d n (p ∷ ps) body v h b =
    let e = and_parts (is_variable p) (list_all is_variable ps) v in
    (word_part d n p (e.0, none_is (d.find kinds.Boolean p) h.0), parameters_part d n ps body e.1 h.1 b)

-- numbers
amount_small : (d : DialectMeaning) (units : ℤ) → is_unsigned units ≡ true → CanSpell d (Num units)
amount_small d (pos units) u = let small : is_amount (pos units) ≡ true = (and_parts (int_le (pos 0) (pos units)) (is_amount (pos units)) u).1 in grind (arith, nat_tests, small)
amount_small d (negsuc units) u = absurd (cc)

number_part : (d : DialectMeaning) → IsLawful d → (units : ℤ) → CanSpell d (Num units) → Part d (Num units ∷ [])
number_part d n units can more c f = let e = follows_ends d n more f in (can, (e.end, e.apart), c)

number_begins : (d : DialectMeaning) (units : ℤ) (ts : List Token) → CanSpell d (Num units) → NoComparison d (Num units ∷ ts)
number_begins d (pos units) ts can = number_no_sign d units ts can
number_begins d (negsuc units) ts can = absurd can

-- arrays
constant_part : (d : DialectMeaning) → IsLawful d → (c : Constant) → is_unsigned_constant c ≡ true → Part d (constant_tokens c)
constant_part d n (constants.Num true units) u more c f = (tt, tt, number_part d n units (amount_small d units u) more c f)
constant_part d n (constants.Num false units) u more c f = number_part d n units (amount_small d units u) more c f
constant_part d n (constants.Str text) u more c f = (tt, (follows_ends d n more f).unquoted, c)
constant_part d n (constants.Bool value) u more c f = let e = follows_ends d n more f in (tt, (e.end, e.closed), c)
constant_part d n (constants.Err mistake) u more c f = (tt, tt, c)

row_parts : (d : DialectMeaning) → IsLawful d → (row : List Constant) → list_all is_unsigned_constant row ≡ true → AllByRecursion (Part d) (map constant_tokens row)
row_parts d n [] u = tt
row_parts d n (c ∷ cs) u =
    let v = and_parts _ _ u in
    (constant_part d n c v.0, row_parts d n cs v.1)

rows_parts : (d : DialectMeaning) → IsLawful d → (rows : List (List Constant)) → list_all (list_all is_unsigned_constant) rows ≡ true → AllByRecursion (Part d) (map row_tokens rows)
rows_parts d n [] u = tt
rows_parts d n (row ∷ rows) u =
    let v = and_parts _ _ u in
    (joined_part d Separator tt (λ rest. tt) refl (map constant_tokens row) (row_parts d n row v.0), rows_parts d n rows v.1)

rows_part : (d : DialectMeaning) → IsLawful d → (rows : List (List Constant)) → list_all (list_all is_unsigned_constant) rows ≡ true → Part d (joined (row_sign d) (map row_tokens rows))
rows_part d n rows u =
    elim n.separators [
      | inl s ↦ let other : d.list ≢ 59 = λ e. absurd (omega (arith, e, s.0)) in
          let sign : row_sign d ≡ Semicolon = rw (s.0) refl in
          subst (λ t. Part d (joined t (map row_tokens rows))) (sym sign) (joined_part d Semicolon other (λ rest. tt) refl (map row_tokens rows) (rows_parts d n rows u))
      | inr s ↦ let sign : row_sign d ≡ Operator signs.Over = rw (s.0) refl in
          subst (λ t. Part d (joined t (map row_tokens rows))) (sym sign) (joined_part d (Operator signs.Over) tt (λ rest. tt) refl (map row_tokens rows) (rows_parts d n rows u))
    ]

-- brackets round a part
closing : (d : DialectMeaning) (close : Token) (ts more : List Token) → CanSpell d close → ((rest : List ℕ) → MayFollow d close rest) → is_after close ≡ true → Part d ts → IsChain d more → IsChain d ((ts ++ close ∷ []) ++ more)
closing d close ts more can may after part c = subst (IsChain d) (sym (append_assoc ts (close ∷ []) more)) (part (close ∷ more) (can, may _, c) after)

-- a sign before an operand
sign_before : (d : DialectMeaning) (sign : BinarySign) (ts : List Token) → NoComparison d ts → MayFollow d (Operator sign) (spelled_out d ts)
sign_before d signs.Less ts h = h
sign_before d signs.Greater ts h = only_greater (spelled_out d ts) h
  where
    only_greater : (text : List ℕ) → first_is (λ c. c == 61 || c == 62) text ≡ false → first_is (λ c. c == 61) text ≡ false
    only_greater [] h = refl
    only_greater (c ∷ cs) h = (or_neither (c == 61) (c == 62) h).0
sign_before d sign ts h = tt

prefix_chain : (d : DialectMeaning) (sign : PrefixSign) (ts : List Token) → IsChain d ts → IsChain d (prefix_token sign ∷ ts)
prefix_chain d prefixes.Plus ts c = (tt, tt, c)
prefix_chain d prefixes.Minus ts c = (tt, tt, c)
prefix_chain d prefixes.At ts c = (tt, tt, c)

prefix_begins : (d : DialectMeaning) (sign : PrefixSign) (ts : List Token) → NoComparison d (prefix_token sign ∷ ts)
prefix_begins d prefixes.Plus ts = refl
prefix_begins d prefixes.Minus ts = refl
prefix_begins d prefixes.At ts = refl

goes : (more : List Token) → MayGoOn false more → follows more ≡ true
goes more (inl e) = absurd (cc)
goes more (inr f) = f

abbrev KindPrinted : DialectMeaning → SpelledKind → Type 0
KindPrinted d kind = IsPrinted d (is_callable_kind kind) (is_empty_kind kind) (yield_step d (with_tokens d kind))

-- one node
kind_printed : (d : DialectMeaning) → IsLawful d → (kind : SpelledKind) → WellKind d kind → FitsKind d kind → OfChildren (Printed d) (PairPrinted d) kind → KindPrinted d kind
kind_printed d n (one.Num units) w fits h =
    let can = amount_small d units w.unsigned in
    record { chain = λ more c g. number_part d n units can more c (goes more g); begins = λ e more. number_begins d units more can }
kind_printed d n (one.Str text) w fits h = record { chain = λ more c g. (tt, (follows_ends d n more (goes more g)).unquoted, c); begins = λ e more. refl }
kind_printed d n (one.Bool value) w fits h = record {
  chain = λ more c g. let e = follows_ends d n more (goes more g) in (tt, (e.end, e.closed), c);
  begins = λ e more. boolean_no_sign d n value more;
}
kind_printed d n (one.Err mistake) w fits h = record { chain = λ more c g. (tt, tt, c); begins = λ e more. error_no_sign d n mistake more }
kind_printed d n (one.Reference sheet place) w fits h = record {
  chain = λ more c g. let e = follows_ends d n more (goes more g) in (fits, (e.end, e.apart, e.closed), c);
  begins = λ e more. reference_no_sign d n (record { sheet = sheet; place = place }) more fits;
}
kind_printed d n (one.Local None word) w fits h = absurd (cc)
kind_printed d n (one.Local (Some sheet) word) w fits h = record {
  chain = λ more c g. let e = follows_ends d n more (goes more g) in (w.words, (e.end, e.apart, e.closed), c);
  begins = λ e more. local_no_sign d sheet word more w.words.0;
}
kind_printed d n (one.Word text) w fits h = record {
  chain = λ more c g. word_part d n text (w.words, none_is (d.find kinds.Boolean text) fits) more c (goes more g);
  begins = λ e more. word_no_sign d text more w.words;
}
kind_printed d n one.Empty w fits h = record { chain = λ more c g. c; begins = λ e more. absurd (cc) }
kind_printed d n (one.Paren x) w fits h = record {
  chain = λ more c g. (tt, tt, closing d Close (yield d x) more tt (λ rest. tt) refl (λ m k f. h.chain m k (inr f)) c);
  begins = λ e more. refl;
}
kind_printed d n (one.Prefix sign x) w fits h = record {
  chain = λ more c g. prefix_chain d sign (yield d x ++ more) (h.chain more c (inr (goes more g)));
  begins = λ e more. prefix_begins d sign (yield d x ++ more);
}
kind_printed d n (one.Percent x) w fits h = record {
  chain = λ more c g. closing d Percent (yield d x) more tt (λ rest. tt) refl (λ m k f. h.chain m k (inr f)) c;
  begins = λ e more. subst (NoComparison d) (sym (append_assoc (yield d x) (Percent ∷ []) more)) (h.begins w.parts (Percent ∷ more));
}
kind_printed d n (one.Spill x) w fits h = record {
  chain = λ more c g. subst (IsChain d) (sym (append_assoc (yield d x) (Hash ∷ []) more)) (h.chain (Hash ∷ more) (tt, (follows_ends d n more (goes more g)).sign, c) (inr refl));
  begins = λ e more. subst (NoComparison d) (sym (append_assoc (yield d x) (Hash ∷ []) more)) (h.begins w.parts (Hash ∷ more));
}
kind_printed d n (one.Binary sign a b) w fits h = record {
  chain = λ more c g.
      subst (IsChain d) (sym (append_assoc (yield d a) (Operator sign ∷ yield d b) more))
      (h.0.chain (Operator sign ∷ (yield d b ++ more)) (tt, sign_before d sign (yield d b ++ more) (h.1.begins w.parts.1 more), h.1.chain more c (inr (goes more g))) (inr refl));
  begins = λ e more. subst (NoComparison d) (sym (append_assoc (yield d a) (Operator sign ∷ yield d b) more)) (h.0.begins w.parts.0 (Operator sign ∷ (yield d b ++ more)));
}
kind_printed d n (one.Fun number arguments) w fits h = record {
  chain = λ more c g. (fits, tt, closing d Close (joined Separator (map (yield d) arguments)) more tt (λ rest. tt) refl (joined_part d Separator tt (λ rest. tt) refl (map (yield d) arguments) (arguments_part d arguments h)) c);
  begins = λ e more. fun_head_no_sign d n number ((joined Separator (map (yield d) arguments) ++ Close ∷ []) ++ more) fits;
}
kind_printed d n (one.Call word arguments) w fits h =
    let variable : is_variable word ≡ true = (and_parts _ _ (and_parts _ _ w.words).0).0 in
    record {
      chain = λ more c g. ((variable, none_is (d.find kinds.Function word) fits), tt, closing d Close (joined Separator (map (yield d) arguments)) more tt (λ rest. tt) refl (joined_part d Separator tt (λ rest. tt) refl (map (yield d) arguments) (arguments_part d arguments h)) c);
      begins = λ e more. name_head_no_sign d word ((joined Separator (map (yield d) arguments) ++ Close ∷ []) ++ more) variable;
    }
kind_printed d n (one.Let pairs body) w fits h = record {
  chain = λ more c g. (
    n.special.0,
    tt,
    closing d Close (joined Separator (pair_parts (map (pair_tokens d) pairs) ++ yield d body ∷ [])) more tt (λ rest. tt) refl
        (joined_part d Separator tt (λ rest. tt) refl (pair_parts (map (pair_tokens d) pairs) ++ yield d body ∷ []) (pairs_part d n pairs body h.0 h.1)) c,
  );
  begins = λ e more. fun_head_no_sign d n d.let_fn ((joined Separator (pair_parts (map (pair_tokens d) pairs) ++ yield d body ∷ []) ++ Close ∷ []) ++ more) n.special.0;
}
kind_printed d n (one.Lambda parameters body) w fits h = record {
  chain = λ more c g. (
    n.special.1,
    tt,
    closing d Close (joined Separator (map (λ p. Word p ∷ []) parameters ++ yield d body ∷ [])) more tt (λ rest. tt) refl
        (joined_part d Separator tt (λ rest. tt) refl (map (λ p. Word p ∷ []) parameters ++ yield d body ∷ []) (parameters_part d n parameters body w.words fits h)) c,
  );
  begins = λ e more. fun_head_no_sign d n d.lambda_fn ((joined Separator (map (λ p. Word p ∷ []) parameters ++ yield d body ∷ []) ++ Close ∷ []) ++ more) n.special.1;
}
kind_printed d n (one.Apply x arguments) w fits h = record {
  chain = λ more c g.
      let inner = closing d Close (joined Separator (map (yield d) arguments)) more tt (λ rest. tt) refl (joined_part d Separator tt (λ rest. tt) refl (map (yield d) arguments) (arguments_part d arguments h.1)) c in
      subst (IsChain d) (sym (apart (yield d x) (joined Separator (map (yield d) arguments)) more))
      (h.0.chain (Open ∷ ((joined Separator (map (yield d) arguments) ++ Close ∷ []) ++ more)) (tt, tt, inner) (inl w.called));
  begins = λ e more. subst (NoComparison d) (sym (apart (yield d x) (joined Separator (map (yield d) arguments)) more)) (h.0.begins w.parts (Open ∷ ((joined Separator (map (yield d) arguments) ++ Close ∷ []) ++ more)));
} where
  apart : (a b more : List Token) → (a ++ Open ∷ b ++ Close ∷ []) ++ more ≡ a ++ Open ∷ ((b ++ Close ∷ []) ++ more)
  apart a b more = ap (λ t. t ++ more) (append_assoc a (Open ∷ b) (Close ∷ [])) ∙ append_assoc a (Open ∷ (b ++ Close ∷ [])) more
kind_printed d n (one.Array rows) w fits h = record {
  chain = λ more c g. (tt, tt, closing d CloseBrace (joined (row_sign d) (map row_tokens rows)) more tt (λ rest. tt) refl (rows_part d n rows w.unsigned) c);
  begins = λ e more. refl;
}

-- every tree
abbrev AllFit : DialectMeaning → Spelled → Type 0
AllFit d t = every-Tree (Option (List ℕ)) (List ℕ) (FitsKind d) (FitsPair d) t

abbrev PairFit : DialectMeaning → Pair → Type 0
PairFit d pair = every-LetPair (Option (List ℕ)) (List ℕ) (FitsKind d) (FitsPair d) pair

tree_printed : (d : DialectMeaning) → IsLawful d → (t : Spelled) → AllWell d t → AllFit d t → Printed d t
tree_printed d n =
    by_nodes (λ t. AllWell d t → AllFit d t → Printed d t) (λ p. PairAllWell d p → PairFit d p → PairPrinted d p) at_kind at_pair
  where
    at_kind : (kind : SpelledKind) → OfChildren (λ t. AllWell d t → AllFit d t → Printed d t) (λ p. PairAllWell d p → PairFit d p → PairPrinted d p) kind
        → AllWell d (node kind) → AllFit d (node kind) → Printed d (node kind)
    at_kind kind children w f =
        let well = children_apply (AllWell d) (λ t. AllFit d t → Printed d t) (PairAllWell d) (λ p. PairFit d p → PairPrinted d p) kind children (well_below d kind w) in
        let both = children_apply (AllFit d) (Printed d) (PairFit d) (PairPrinted d) kind well (below_of (FitsKind d) (FitsPair d) kind f) in
        let here = kind_printed d n kind (well_here d kind w) (here_of (FitsKind d) (FitsPair d) kind f) both in
        subst (λ c. IsPrinted d c (is_empty (node kind)) (yield d (node kind))) (sym (callable-node kind))
        (subst (λ e. IsPrinted d (is_callable_kind kind) e (yield d (node kind))) (sym (empty-node kind))
        (subst (λ ts. IsPrinted d (is_callable_kind kind) (is_empty_kind kind) ts) (sym (yield-node d kind)) here))

    at_pair : (variable : List ℕ) (value : Spelled) → (AllWell d value → AllFit d value → Printed d value)
        → PairAllWell d (pair_of variable value) → PairFit d (pair_of variable value) → PairPrinted d (pair_of variable value)
    at_pair variable value h w f = record {
      variable = ((pair_here d (pair_of variable value) w).0, none_is _ (every_here-LetPair (Option (List ℕ)) (List ℕ) (FitsKind d) (FitsPair d) (pair_of variable value) f));
      value = h (pair_below d (pair_of variable value) w) (value_of (FitsKind d) (FitsPair d) (pair_of variable value) f);
    }

-- the tokens of a tree that fits are a chain
pub fits_chain : (d : DialectMeaning) → IsLawful d → (t : Spelled) → Fits d t → IsChain d (yield d t)
fits_chain d n t fits = subst (IsChain d) (append-nil (yield d t)) ((tree_printed d n t fits.well.nodes fits.nodes).chain [] tt (inr refl))

-- so its canonical text falls into them, by the relation and by the function, and reads as the tree
pub printed_lexes : (d : DialectMeaning) → IsLawful d → (t : Spelled) → Fits d t → Lexes d (printed d t) (yield d t)
printed_lexes d n t fits = chain_read d n (yield d t) (fits_chain d n t fits)

pub printed_tokens : (d : DialectMeaning) → IsLawful d → (t : Spelled) → Fits d t → tokens_of d (printed d t) ≡ Some (yield d t)
printed_tokens d n t fits = tokens_of_complete d n (printed d t) (yield d t) (printed_lexes d n t fits)

pub printed_reads : (d : DialectMeaning) → IsLawful d → (t : Spelled) → Fits d t → Reads d (printed d t) t
printed_reads d n t fits = record { well = fits.well; tokens = printed_lexes d n t fits }
