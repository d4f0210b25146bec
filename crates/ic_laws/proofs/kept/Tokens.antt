-- What holds of each token of a formula that names a reference or a function holds of its nodes; and what holds of each
-- token that is spelled so holds of those of a text.
use Rattle.std.proofs.Common.{ℕ, List, [], ◌∷◌, ◌++◌, map, Option, refl, subst}
use Rattle.std.specs.List.{AllByRecursion}
use Rattle.ic_laws.specs.Dialect.{DialectMeaning}
use Rattle.ic_laws.specs.Parse.{Pair, SpelledKind, node}
use Rattle.ic_laws.specs.Token.{Close, FunHead, Hash, Lexes, Open, Operator, Percent, Ref, Separator, Spells, Token, Word}
use Rattle.ic_laws.specs.Tree.{Spelled}
use Rattle.ic_laws.specs.Yield.{joined, pair_parts, yield, yield_step}
use Rattle.ic_laws.specs.declared.reference.Place.{Place}
use Rattle.ic_laws.specs.declared.tree.LetPair.{every_made-LetPair}
use Rattle.ic_laws.specs.declared.tree.Tree.{every-Tree}
use Rattle.ic_laws.specs.declared.tree.Tree.TheOpen as one
use Rattle.ic_laws.proofs.binding.Induction.{EveryPair, OfChildren, by_nodes, every_made}
use Rattle.ic_laws.proofs.parsing.Nodes.{pair_tokens, with_tokens, yield-node}

-- each token of a text has what each token has that is spelled so
pub lexed_all : (d : DialectMeaning) (P : Token → Type 0) → ((token : Token) (front rest : List ℕ) → Spells d token front rest → P token) → (text : List ℕ) (ts : List Token) → Lexes d text ts → AllByRecursion P ts
lexed_all d P each text [] h = tt
lexed_all d P each text (token ∷ tokens) (blanks, unread, rest, blank, whole, takes, more) = (each token takes.front rest takes.spelled, lexed_all d P each rest tokens more)

-- what all of a list has, both parts of it have
module _ {A : Type 0} (P : A → Type 0) where
  all_front : (xs ys : List A) → AllByRecursion P (xs ++ ys) → AllByRecursion P xs
  all_front [] ys h = tt
  all_front (x ∷ xs) ys h = (h.0, all_front xs ys h.1)

  all_back : (xs ys : List A) → AllByRecursion P (xs ++ ys) → AllByRecursion P ys
  all_back [] ys h = h
  all_back (x ∷ xs) ys h = all_back xs ys h.1

module _ (of_reference : Place → Type 0) (of_function : ℕ → Type 0) where
  -- a fact of the place of a reference, and of the number of a function that a token calls
  abbrev pub OfToken : Token → Type 0
  OfToken (Ref reference) = of_reference reference.place
  OfToken (FunHead number) = of_function number
  OfToken token = Unit {0}

  -- the same of a node
  abbrev pub OfNode : SpelledKind → Type 0
  OfNode (one.Reference sheet place) = of_reference place
  OfNode (one.Fun number arguments) = of_function number
  OfNode kind = Unit {0}

  abbrev pub OfNodes : Spelled → Type 0
  OfNodes t = every-Tree (Option (List ℕ)) (List ℕ) OfNode (λ pair. Unit {0}) t

  module _ (d : DialectMeaning) where
    abbrev All : List Token → Type 0
    All = AllByRecursion OfToken

    abbrev Good : Spelled → Type 0
    Good t = All (yield d t) → OfNodes t

    abbrev GoodPair : Pair → Type 0
    GoodPair pair = All (yield d pair.value) → EveryPair OfNode (λ p. Unit {0}) pair

    -- of parts with a separator between each two of them
    each_joined : (parts : List (List Token)) → All (joined Separator parts) → AllByRecursion All parts
    each_joined [] h = tt
    each_joined (part ∷ []) h = (h, tt)
    each_joined (part ∷ next ∷ parts) h =
        let after : All (Separator ∷ joined Separator (next ∷ parts)) = all_back OfToken part (Separator ∷ joined Separator (next ∷ parts)) h in
        (all_front OfToken part (Separator ∷ joined Separator (next ∷ parts)) h, each_joined (next ∷ parts) after.1)

    all_good : (ts : List Spelled) → AllByRecursion Good ts → AllByRecursion All (map (yield d) ts) → AllByRecursion OfNodes ts
    all_good [] h each = tt
    all_good (t ∷ ts) h each = (h.0 each.0, all_good ts h.1 each.1)

    -- the arguments of a call, up to its bracket
    arguments_good : (ts : List Spelled) → AllByRecursion Good ts → All (joined Separator (map (yield d) ts) ++ Close ∷ []) → AllByRecursion OfNodes ts
    arguments_good ts h each = all_good ts h (each_joined (map (yield d) ts) (all_front OfToken (joined Separator (map (yield d) ts)) (Close ∷ []) each))

    pairs_good : (ps : List Pair) (last : List Token) → AllByRecursion GoodPair ps → AllByRecursion All (pair_parts (map (pair_tokens d) ps) ++ last ∷ []) → AllByRecursion (EveryPair OfNode (λ p. Unit {0})) ps × All last
    pairs_good [] last h each = (tt, each.0)
    pairs_good (p ∷ ps) last h each = let more = pairs_good ps last h.1 each.1.1 in ((h.0 each.1.0, more.0), more.1)

    last_good : (xs : List (List Token)) (last : List Token) → AllByRecursion All (xs ++ last ∷ []) → All last
    last_good xs last each = (all_back All xs (last ∷ []) each).0

    here : (kind : SpelledKind) → All (yield_step d (with_tokens d kind)) → OfNode kind
    here (one.Reference sheet place) each = each.0
    here (one.Fun number arguments) each = each.0
    here kind each = tt

    below : (kind : SpelledKind) → OfChildren Good GoodPair kind → All (yield_step d (with_tokens d kind)) → OfChildren OfNodes (EveryPair OfNode (λ p. Unit {0})) kind
    below (one.Paren x) h each = h (all_front OfToken (yield d x) (Close ∷ []) each.1)
    below (one.Prefix sign x) h each = h each.1
    below (one.Percent x) h each = h (all_front OfToken (yield d x) (Percent ∷ []) each)
    below (one.Spill x) h each = h (all_front OfToken (yield d x) (Hash ∷ []) each)
    below (one.Binary sign a b) h each =
        let after : All (Operator sign ∷ yield d b) = all_back OfToken (yield d a) (Operator sign ∷ yield d b) each in
        (h.0 (all_front OfToken (yield d a) (Operator sign ∷ yield d b) each), h.1 after.1)
    below (one.Fun number arguments) h each = arguments_good arguments h each.1
    below (one.Call word arguments) h each = arguments_good arguments h each.1
    below (one.Let pairs body) h each =
        let parts : List (List Token) = pair_parts (map (pair_tokens d) pairs) ++ yield d body ∷ [] in
        let all = pairs_good pairs (yield d body) h.0 (each_joined parts (all_front OfToken (joined Separator parts) (Close ∷ []) each.1)) in
        (all.0, h.1 all.1)
    below (one.Lambda parameters body) h each =
        let words : List (List Token) = map (λ p. Word p ∷ []) parameters in
        h (last_good words (yield d body) (each_joined (words ++ yield d body ∷ []) (all_front OfToken (joined Separator (words ++ yield d body ∷ [])) (Close ∷ []) each.1)))
    below (one.Apply x arguments) h each =
        let call : List Token = Open ∷ joined Separator (map (yield d) arguments) in
        let front : All (yield d x ++ call) = all_front OfToken (yield d x ++ call) (Close ∷ []) each in
        let after : All call = all_back OfToken (yield d x) call front in
        (h.0 (all_front OfToken (yield d x) call front), all_good arguments h.1 (each_joined (map (yield d) arguments) after.1))
    below kind h each = tt

    node_good : (kind : SpelledKind) → OfChildren Good GoodPair kind → Good (node kind)
    node_good kind h each =
        let step : All (yield_step d (with_tokens d kind)) = subst All (yield-node d kind) each in
        every_made OfNode (λ p. Unit {0}) kind (here kind step) (below kind h step)

    -- what each token of a formula has, each node has
    pub nodes_of_tokens : (t : Spelled) → AllByRecursion OfToken (yield d t) → OfNodes t
    nodes_of_tokens = by_nodes Good GoodPair node_good (λ variable value h each. every_made-LetPair (Option (List ℕ)) (List ℕ) OfNode (λ p. Unit {0}) (record { variable = variable; value = value }) (record { variable = variable; value = (value, h each) }) refl tt)
