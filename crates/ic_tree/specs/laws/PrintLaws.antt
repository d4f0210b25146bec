-- The canonical text of a tree is that of its top level, with the texts of what is below it in their places.
use mathlib.Core.Path.{fun_ext}
use Rattle.std.proofs.Common.{◌≡◌, ℕ, suc, ◌+◌, List, [], ◌∷◌, ◌++◌, true, false, codes, nat_eq, append_assoc, map, refl, sym, ap, ap₂, ◌∙◌, arith, inl, inr}
use Rattle.std.proofs.lemmas.Bool.{cases_Bool}
use Rattle.std.proofs.lemmas.Grind.{flat_map-append}
use Rattle.std.proofs.lemmas.List.{append-nil}
use Rattle.ic_laws.specs.Character.{comma}
use Rattle.ic_laws.specs.Dialect.{DialectMeaning, word_text}
use Rattle.ic_laws.specs.declared.dialect.WordKind.TheVariants as kinds
use Rattle.ic_laws.specs.Following.{spelled_out}
use Rattle.ic_laws.specs.Parse.{Pair, SpelledKind, node}
use Rattle.ic_laws.specs.Token.{Token, Close, CloseBrace, Hash, Open, Operator, Percent, Separator, Word, token_text}
use Rattle.ic_laws.specs.Tree.{Spelled}
use Rattle.ic_laws.specs.Yield.{constant_tokens, joined, pair_parts, prefix_token, row_sign, row_tokens, yield}
use Rattle.ic_laws.specs.declared.tree.Constant.{Constant}
use Rattle.ic_laws.specs.declared.tree.Constant.TheVariants as constants
use Rattle.ic_laws.specs.declared.tree.PrefixSign.TheVariants as prefixes
use Rattle.ic_laws.specs.declared.tree.PrefixSign.{PrefixSign}
use Rattle.ic_laws.specs.declared.tree.Tree.TheOpen as one
use Rattle.ic_laws.proofs.parsing.Nodes.{pair_tokens, yield-node}
use Rattle.ic_tree.specs.Printed.{all_between, arguments_text, constant_text, each_before, each_from, kind_text, pair_text, prefix_sign, row_separator, row_text, tree_text}

module _ (d : DialectMeaning) where
  abbrev out : List Token → List ℕ
  out tokens = spelled_out d tokens

  out-append : (a b : List Token) → out (a ++ b) ≡ out a ++ out b
  out-append a b = flat_map-append (token_text d) a b

  -- parts with a sign between each two of them, from one that isn't the first
  after : {A : Type 0} (sign : Token) (c : ℕ) (f : A → List Token) (n : ℕ) (x : A) (xs : List A) → token_text d sign ≡ c ∷ []
      → out (joined sign (map f (x ∷ xs))) ≡ out (f x) ++ each_from c (suc n) (λ y. out (f y)) xs
  after sign c f n x [] s = sym (append-nil (out (f x)))
  after sign c f n x (y ∷ ys) s =
      out-append (f x) (sign ∷ joined sign (map f (y ∷ ys)))
      ∙ ap (λ t. out (f x) ++ (t ++ out (joined sign (map f (y ∷ ys))))) s
      ∙ ap (λ t. out (f x) ++ (c ∷ t)) (after sign c f (suc n) y ys s)
      ∙ ap (λ k. out (f x) ++ (c ∷ (out (f y) ++ each_from c k (λ z. out (f z)) ys))) (next n)
    where
      next : (n : ℕ) → suc (suc n) ≡ suc n + 1
      next n = omega arith

  -- parts with a sign between each two of them
  between : {A : Type 0} (sign : Token) (c : ℕ) (f : A → List Token) (xs : List A) → token_text d sign ≡ c ∷ []
      → out (joined sign (map f xs)) ≡ all_between c (λ y. out (f y)) xs
  between sign c f [] s = refl
  between sign c f (x ∷ xs) s = after sign c f 0 x xs s

  arguments_are : (trees : List Spelled) → out (joined Separator (map (yield d) trees)) ≡ arguments_text d trees
  unfolding tree_text
  arguments_are trees = between Separator d.list (yield d) trees refl

  -- a last part after others
  more : (p : List Token) (ps : List (List Token)) (q : List Token) → joined Separator (p ∷ (ps ++ q ∷ [])) ≡ p ++ Separator ∷ joined Separator (ps ++ q ∷ [])
  more p [] q = refl
  more p (r ∷ ps) q = refl

  before_last : (ps : List (List Token)) (q : List Token) → out (joined Separator (ps ++ q ∷ [])) ≡ each_before d.list out ps ++ out q
  before_last [] q = refl
  before_last (p ∷ ps) q =
      ap out (more p ps q) ∙ out-append p (Separator ∷ joined Separator (ps ++ q ∷ []))
      ∙ ap (λ t. out p ++ (d.list ∷ t)) (before_last ps q)
      ∙ sym (append_assoc (out p) (d.list ∷ each_before d.list out ps) (out q))

  parameters_are : (names : List (List ℕ)) → each_before d.list out (map (λ p. Word p ∷ []) names) ≡ each_before d.list (λ p. p) names
  parameters_are [] = refl
  parameters_are (name ∷ names) = ap₂ (λ a b. a ++ d.list ∷ b) (append-nil name) (parameters_are names)

  pairs_are : (pairs : List Pair) → each_before d.list out (pair_parts (map (pair_tokens d) pairs)) ≡ each_before d.list (pair_text d) pairs
  unfolding tree_text
  pairs_are [] = refl
  pairs_are (pair ∷ pairs) =
      ap₂ (λ a b. a ++ d.list ∷ (out (yield d pair.value) ++ d.list ∷ b)) (append-nil pair.variable) (pairs_are pairs)
      ∙ sym (append_assoc pair.variable (d.list ∷ out (yield d pair.value)) (d.list ∷ each_before d.list (pair_text d) pairs))

  constant_is : (c : Constant) → out (constant_tokens c) ≡ constant_text d c
  constant_is (constants.Num true units) = ap (λ t. 45 ∷ t) (append-nil _)
  constant_is (constants.Num false units) = append-nil _
  constant_is (constants.Str text) = append-nil _
  constant_is (constants.Bool value) = append-nil _
  constant_is (constants.Err e) = append-nil _

  row_is : (row : List Constant) → out (row_tokens row) ≡ row_text d row
  row_is row = between Separator d.list constant_tokens row refl ∙ ap (λ (f : Constant → List ℕ). all_between d.list f row) (fun_ext constant_is)

  row_sign_is : token_text d (row_sign d) ≡ row_separator d ∷ []
  row_sign_is = elim (cases_Bool (nat_eq d.list comma)) [ inl t ↦ rw t refl | inr f ↦ rw f refl ]

  rows_are : (rows : List (List Constant)) → out (joined (row_sign d) (map row_tokens rows)) ≡ all_between (row_separator d) (row_text d) rows
  rows_are rows =
      between (row_sign d) (row_separator d) row_tokens rows row_sign_is ∙ ap (λ (f : List Constant → List ℕ). all_between (row_separator d) f rows) (fun_ext row_is)

  prefix_is : (sign : PrefixSign) (x : List Token) → out (prefix_token sign ∷ x) ≡ prefix_sign sign ∷ out x
  prefix_is prefixes.Plus x = refl
  prefix_is prefixes.Minus x = refl
  prefix_is prefixes.At x = refl

  -- a text between a head and a closing bracket
  closed : (x : List Token) (text : List ℕ) → out x ≡ text → out (x ++ Close ∷ []) ≡ text ++ 41 ∷ []
  closed x text e = out-append x (Close ∷ []) ∙ ap (λ t. t ++ 41 ∷ []) e

  -- parameters or pairs, the body, and a closing bracket
  closed_body : (ps : List (List Token)) (body : List Token) (text : List ℕ) → each_before d.list out ps ≡ text → out (joined Separator (ps ++ body ∷ []) ++ Close ∷ []) ≡ text ++ (out body ++ 41 ∷ [])
  closed_body ps body text e = closed (joined Separator (ps ++ body ∷ [])) (text ++ out body) (before_last ps body ∙ ap (λ t. t ++ out body) e) ∙ append_assoc text (out body) (41 ∷ [])

  regroup : (a b : List ℕ) → (a ++ 40 ∷ b) ++ 41 ∷ [] ≡ (a ++ 40 ∷ []) ++ (b ++ 41 ∷ [])
  regroup a b = append_assoc a (40 ∷ b) (41 ∷ []) ∙ sym (append_assoc a (40 ∷ []) (b ++ 41 ∷ []))

  level : (kind : SpelledKind) → out (yield d (node kind)) ≡ kind_text d kind
  unfolding tree_text
  level (one.Num units) = ap out (yield-node d (one.Num units)) ∙ append-nil _
  level (one.Str text) = ap out (yield-node d (one.Str text)) ∙ append-nil _
  level (one.Bool value) = ap out (yield-node d (one.Bool value)) ∙ append-nil _
  level (one.Err error) = ap out (yield-node d (one.Err error)) ∙ append-nil _
  level (one.Reference sheet place) = ap out (yield-node d (one.Reference sheet place)) ∙ append-nil _
  level (one.Local sheet word) = ap out (yield-node d (one.Local sheet word)) ∙ append-nil _
  level (one.Word text) = ap out (yield-node d (one.Word text)) ∙ append-nil _
  level one.Empty = ap out (yield-node d one.Empty)
  level (one.Paren x) = ap out (yield-node d (one.Paren x)) ∙ ap (λ t. 40 ∷ t) (closed (yield d x) _ refl)
  level (one.Prefix sign x) = ap out (yield-node d (one.Prefix sign x)) ∙ prefix_is sign (yield d x)
  level (one.Percent x) = ap out (yield-node d (one.Percent x)) ∙ out-append (yield d x) (Percent ∷ [])
  level (one.Spill x) = ap out (yield-node d (one.Spill x)) ∙ out-append (yield d x) (Hash ∷ [])
  level (one.Binary sign a b) =
      ap out (yield-node d (one.Binary sign a b)) ∙ out-append (yield d a) (Operator sign ∷ yield d b) ∙ sym (append_assoc (out (yield d a)) _ (out (yield d b)))
  level (one.Fun number arguments) =
      ap out (yield-node d (one.Fun number arguments))
      ∙ ap (λ t. word_text d kinds.Function number ++ codes "(" ++ t) (closed (joined Separator (map (yield d) arguments)) (arguments_text d arguments) (arguments_are arguments))
  level (one.Call name arguments) =
      ap out (yield-node d (one.Call name arguments))
      ∙ ap (λ t. name ++ codes "(" ++ t) (closed (joined Separator (map (yield d) arguments)) (arguments_text d arguments) (arguments_are arguments))
  level (one.Let pairs body) =
      let head = word_text d kinds.Function d.let_fn ++ codes "(" in
      let text = each_before d.list (pair_text d) pairs in
      ap out (yield-node d (one.Let pairs body))
      ∙ ap (λ t. head ++ t) (closed_body (pair_parts (map (pair_tokens d) pairs)) (yield d body) text (pairs_are pairs))
      ∙ sym (append_assoc head text (out (yield d body) ++ 41 ∷ []))
  level (one.Lambda parameters body) =
      let head = word_text d kinds.Function d.lambda_fn ++ codes "(" in
      let text = each_before d.list (λ p. p) parameters in
      ap out (yield-node d (one.Lambda parameters body))
      ∙ ap (λ t. head ++ t) (closed_body (map (λ p. Word p ∷ []) parameters) (yield d body) text (parameters_are parameters))
      ∙ sym (append_assoc head text (out (yield d body) ++ 41 ∷ []))
  level (one.Apply x arguments) =
      let parts = joined Separator (map (yield d) arguments) in
      ap out (yield-node d (one.Apply x arguments))
      ∙ out-append (yield d x ++ Open ∷ parts) (Close ∷ [])
      ∙ ap (λ t. t ++ 41 ∷ []) (out-append (yield d x) (Open ∷ parts) ∙ ap (λ t. out (yield d x) ++ (40 ∷ t)) (arguments_are arguments))
      ∙ regroup (out (yield d x)) (arguments_text d arguments)
  level (one.Array rows) =
      ap out (yield-node d (one.Array rows)) ∙ ap (λ t. 123 ∷ t) (out-append (joined (row_sign d) (map row_tokens rows)) (CloseBrace ∷ []) ∙ ap (λ t. t ++ 125 ∷ []) (rows_are rows))

pub level_text : (d : DialectMeaning) (kind : SpelledKind) → tree_text d (node kind) ≡ kind_text d kind
unfolding tree_text
level_text d kind = level d kind
