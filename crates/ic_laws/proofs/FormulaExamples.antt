-- Formulas by example: the tokens of trees, and trees that are not well-formed.
use Rattle.std.proofs.Common.{◌≡◌, ℕ, zero, suc, ◌+◌, ◌*◌, ◌≤◌, pos, List, [], ◌∷◌, true, false, not, Option, None, Some, codes, refl, subst, ap, ◌∙◌, arith}
use Rattle.ic_laws.specs.Dialect.{DialectMeaning}
use Rattle.ic_laws.specs.Parse.{node}
use Rattle.ic_laws.specs.Reading.{IsWell}
use Rattle.ic_laws.specs.Token.{Token, Num, Ref, Word, FunHead, NameHead, Separator, Operator, Percent, Hash, Open, Close, OpenBrace, CloseBrace, Semicolon, Spells, string_text}
use Rattle.ic_laws.specs.Tree.{Spelled, Kind, IsKindWell, spelled_names, open_brackets, brackets_step, level, kind_level, is_empty, is_empty_kind, is_callable, is_callable_kind}
use Rattle.ic_laws.specs.Yield.{yield, yield_step, pair_step, PairTokens}
use Rattle.ic_laws.specs.declared.dialect.WordKind.TheVariants as kinds
use Rattle.ic_laws.specs.declared.reference.Place.TheVariants as places
use Rattle.ic_laws.specs.declared.reference.Position.TheVariants as at
use Rattle.ic_laws.specs.declared.tree.BinarySign.TheVariants as signs
use Rattle.ic_laws.specs.declared.tree.Constant.{Constant}
use Rattle.ic_laws.specs.declared.tree.Constant.TheVariants as constants
use Rattle.ic_laws.specs.declared.tree.LetPair.{LetPair, roll-LetPair}
use Rattle.ic_laws.specs.declared.tree.PrefixSign.TheVariants as prefixes
use Rattle.ic_laws.specs.declared.tree.Tree.{map-Tree, fold-roll-Tree}
use Rattle.ic_laws.specs.declared.tree.Tree.TheFolds.{fold-LetPair, fold-roll-LetPair, every_here-Tree}
use Rattle.ic_laws.specs.declared.tree.Tree.TheOpen as one
use Rattle.ic_laws.specs.declared.tree.Tree.TheViews.{out-roll-Tree}

abbrev SheetName : Type 0
SheetName = Option (List ℕ)

-- a pair of LET
abbrev pair : List ℕ → Spelled → LetPair SheetName (List ℕ)
pair variable value = roll-LetPair SheetName (List ℕ) (record { variable = variable; value = value })

-- so many units, a whole number, a word, and the cell A1 in the cell A1
abbrev number_node : ℕ → Spelled
number_node units = node (one.Num (pos units))

abbrev whole : ℕ → ℕ
whole n = n * 1000000000

abbrev number : ℕ → Spelled
number n = number_node (whole n)

abbrev word_node : List ℕ → Spelled
word_node name = node (one.Word name)

abbrev cell : Spelled
cell = node (one.Reference None (places.Cell (record { row = at.Rel (pos 0); column = at.Rel (pos 0) })))

tokens_of-node : (d : DialectMeaning) (kind : Kind SheetName (List ℕ)) → yield d (node kind) ≡ yield_step d (map-Tree SheetName (List ℕ) Spelled (LetPair SheetName (List ℕ)) (List Token) PairTokens (yield d) (fold-LetPair SheetName (List ℕ) (List Token) PairTokens (yield_step d) pair_step) kind)
tokens_of-node d kind = fold-roll-Tree SheetName (List ℕ) (List Token) PairTokens (yield_step d) pair_step kind

tokens_of-pair : (d : DialectMeaning) (variable : List ℕ) (value : Spelled) → fold-LetPair SheetName (List ℕ) (List Token) PairTokens (yield_step d) pair_step (pair variable value) ≡ record { variable = variable; value = yield d value }
tokens_of-pair d variable value = fold-roll-LetPair SheetName (List ℕ) (List Token) PairTokens (yield_step d) pair_step (record { variable = variable; value = value })

-- SUM(1.5,2), where SUM has the number 4
sum : (d : DialectMeaning) → yield d (node (one.Fun 4 (number_node 1500000000 ∷ number 2 ∷ []))) ≡ FunHead 4 ∷ Num (pos 1500000000) ∷ Separator ∷ Num (pos 2000000000) ∷ Close ∷ []
sum d = simp tokens_of-node

-- {1,2;3,-4}: the rows have `;` between them, and `/` where `;` separates arguments
abbrev plain : ℕ → Constant
plain n = constants.Num false (pos (whole n))

abbrev array_tree : Spelled
array_tree = node (one.Array ((plain 1 ∷ plain 2 ∷ []) ∷ (plain 3 ∷ constants.Num true (pos (whole 4)) ∷ []) ∷ []))

array_rows : (d : DialectMeaning) → d.list ≡ 44 → yield d array_tree ≡ OpenBrace ∷ Num (pos 1000000000) ∷ Separator ∷ Num (pos 2000000000) ∷ Semicolon ∷ Num (pos 3000000000) ∷ Separator ∷ Operator signs.Minus ∷ Num (pos 4000000000) ∷ CloseBrace ∷ []
array_rows d e = simp (tokens_of-node, e)

array_rows_by_slash : (d : DialectMeaning) → d.list ≡ 59 → yield d array_tree ≡ OpenBrace ∷ Num (pos 1000000000) ∷ Separator ∷ Num (pos 2000000000) ∷ Operator signs.Over ∷ Num (pos 3000000000) ∷ Separator ∷ Operator signs.Minus ∷ Num (pos 4000000000) ∷ CloseBrace ∷ []
array_rows_by_slash d e = simp (tokens_of-node, e)

-- -2^2 is the square of -2
minus_two_squared : (d : DialectMeaning) → yield d (node (one.Binary signs.Power (node (one.Prefix prefixes.Minus (number 2))) (number 2))) ≡ Operator signs.Minus ∷ Num (pos 2000000000) ∷ Operator signs.Power ∷ Num (pos 2000000000) ∷ []
minus_two_squared d = simp tokens_of-node

-- -x% is the negative of x%
minus_percent : (d : DialectMeaning) → yield d (node (one.Prefix prefixes.Minus (node (one.Percent (word_node (codes "x")))))) ≡ Operator signs.Minus ∷ Word (codes "x") ∷ Percent ∷ []
minus_percent d = simp tokens_of-node

-- A1#
spill : (d : DialectMeaning) → yield d (node (one.Spill cell)) ≡ Ref (record { sheet = None; place = places.Cell (record { row = at.Rel (pos 0); column = at.Rel (pos 0) }) }) ∷ Hash ∷ []
spill d = simp tokens_of-node

-- f(1)(2)
applied : (d : DialectMeaning) → yield d (node (one.Apply (node (one.Call (codes "f") (number 1 ∷ []))) (number 2 ∷ []))) ≡ NameHead (codes "f") ∷ Num (pos 1000000000) ∷ Close ∷ Open ∷ Num (pos 2000000000) ∷ Close ∷ []
applied d = simp tokens_of-node

-- f(,) has two arguments that are left out, f() none
left_out : (d : DialectMeaning) → yield d (node (one.Call (codes "f") (node one.Empty ∷ node one.Empty ∷ []))) ≡ NameHead (codes "f") ∷ Separator ∷ Close ∷ []
left_out d = simp tokens_of-node

none : (d : DialectMeaning) → yield d (node (one.Call (codes "f") [])) ≡ NameHead (codes "f") ∷ Close ∷ []
none d = simp tokens_of-node

-- LET(x,1,x) and LAMBDA(x,x)
with_let : (d : DialectMeaning) → yield d (node (one.Let (pair (codes "x") (number 1) ∷ []) (word_node (codes "x")))) ≡ FunHead d.let_fn ∷ Word (codes "x") ∷ Separator ∷ Num (pos 1000000000) ∷ Separator ∷ Word (codes "x") ∷ Close ∷ []
with_let d = simp (tokens_of-node, tokens_of-pair)

with_lambda : (d : DialectMeaning) → yield d (node (one.Lambda (codes "x" ∷ []) (word_node (codes "x")))) ≡ FunHead d.lambda_fn ∷ Word (codes "x") ∷ Separator ∷ Word (codes "x") ∷ Close ∷ []
with_lambda d = simp tokens_of-node

-- what holds of a well-formed tree's first node
level_of : (d : DialectMeaning) (kind : Kind SheetName (List ℕ)) → IsWell d (node kind) → IsKindWell spelled_names d.let_fn d.lambda_fn kind
level_of d kind well = subst (IsKindWell spelled_names d.let_fn d.lambda_fn) (out-roll-Tree SheetName (List ℕ) kind) (every_here-Tree SheetName (List ℕ) _ _ _ well.nodes)

-- 1-(1-1) needs its brackets: the right operand binds more tightly than the sign
loose_right : (d : DialectMeaning) → IsWell d (node (one.Binary signs.Minus (number 1) (node (one.Binary signs.Minus (number 1) (number 1))))) → ⊥
loose_right d well =
    let h = (level_of d _ well).operands.1 in
    let e : level (node (one.Binary signs.Minus (number 1) (number 1))) ≡ 3 = ap kind_level (out-roll-Tree SheetName (List ℕ) (one.Binary signs.Minus (number 1) (number 1))) in
    omega (arith, h, e)

-- the one argument that is left out is none
one_empty : (d : DialectMeaning) → IsWell d (node (one.Call (codes "f") (node one.Empty ∷ []))) → ⊥
one_empty d well =
    let h = (level_of d _ well).arguments in
    let e : is_empty (node one.Empty) ≡ true = ap is_empty_kind (out-roll-Tree SheetName (List ℕ) one.Empty) in
    let no_argument : not (is_empty (node one.Empty)) ≡ true = h in
    cc (ap not e)

-- LET without a pair
no_pair : (d : DialectMeaning) → IsWell d (node (one.Let [] (number 1))) → ⊥
no_pair d well = (level_of d _ well).elements refl

-- the text of a string has its quotes doubled
doubled_quotes : string_text (codes "a\"b") ≡ codes "\"a\"\"b\""
doubled_quotes = refl

-- a word alone isn't called
bare_word : (d : DialectMeaning) → IsWell d (node (one.Apply (word_node (codes "x")) [])) → ⊥
bare_word d well =
    let called : is_callable (word_node (codes "x")) ≡ true = (level_of d _ well).called in
    let e : is_callable (word_node (codes "x")) ≡ false = ap is_callable_kind (out-roll-Tree SheetName (List ℕ) (one.Word (codes "x"))) in
    cc

-- a number in so many brackets
abbrev in_brackets : ℕ → Spelled
in_brackets zero = number 1
in_brackets (suc n) = node (one.Paren (in_brackets n))

open_brackets-in_brackets : (n : ℕ) → open_brackets (in_brackets n) ≡ n
open_brackets-in_brackets zero = fold-roll-Tree SheetName (List ℕ) ℕ ℕ brackets_step (λ p. p.value) _
open_brackets-in_brackets (suc n) = fold-roll-Tree SheetName (List ℕ) ℕ ℕ brackets_step (λ p. p.value) _ ∙ ap (λ k. k + 1) (open_brackets-in_brackets n) ∙ omega arith

-- 129 brackets are one too many
too_many_brackets : (d : DialectMeaning) → IsWell d (in_brackets 129) → ⊥
too_many_brackets d well = let h : open_brackets (in_brackets 129) ≤ 128 = well.few_brackets in omega (arith, h, open_brackets-in_brackets 129)

-- a boolean word isn't spelled as a word
boolean_is_no_word : (d : DialectMeaning) (rest : List ℕ) → d.find kinds.Boolean (codes "TRUE") ≡ Some 0 → Spells d (Word (codes "TRUE")) (codes "TRUE") rest → ⊥
boolean_is_no_word d rest found spelled = let other = spelled.3 in cc
