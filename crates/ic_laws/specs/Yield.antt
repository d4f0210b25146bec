-- The tokens of a tree.
use Rattle.std.specs.Prelude.{ℕ, List, [], ◌∷◌, ◌++◌, map, flat_map, true, false, Option, Some, None, nat_eq, if◌then◌else◌}
use Rattle.ic_laws.specs.Character.{comma}
use Rattle.ic_laws.specs.Dialect.{DialectMeaning}
use Rattle.ic_laws.specs.Token.{Token, Num, Str, Boolean, Err, Ref, Local, Word, FunHead, NameHead, Separator, Operator, At, Percent, Hash, Open, Close, OpenBrace, CloseBrace, Semicolon}
use Rattle.ic_laws.specs.Tree.{Spelled}
use Rattle.ic_laws.specs.declared.tree.BinarySign.TheVariants as signs
use Rattle.ic_laws.specs.declared.tree.Constant.{Constant}
use Rattle.ic_laws.specs.declared.tree.Constant.TheVariants as constants
use Rattle.ic_laws.specs.declared.tree.PrefixSign.{PrefixSign}
use Rattle.ic_laws.specs.declared.tree.PrefixSign.TheVariants as prefixes
use Rattle.ic_laws.specs.declared.tree.Tree.{Tree-F, fold-Tree}
use Rattle.ic_laws.specs.declared.tree.Tree.TheOpen.{LetPair-F}
use Rattle.ic_laws.specs.declared.tree.Tree.TheOpen as one

-- parts with a token between each two of them
abbrev pub joined : Token → List (List Token) → List Token
joined between [] = []
joined between (part ∷ []) = part
joined between (part ∷ next ∷ parts) = part ++ between ∷ joined between (next ∷ parts)

-- the token between the rows of an array: `;`, and `/` where `;` separates arguments
abbrev pub row_sign : DialectMeaning → Token
row_sign d = if nat_eq d.list comma then Semicolon else Operator signs.Over

-- the token of a sign before its operand
abbrev pub prefix_token : PrefixSign → Token
prefix_token prefixes.Plus = Operator signs.Plus
prefix_token prefixes.Minus = Operator signs.Minus
prefix_token prefixes.At = At

-- a constant; a minus is a sign of its own
abbrev pub constant_tokens : Constant → List Token
constant_tokens (constants.Num true units) = Operator signs.Minus ∷ Num units ∷ []
constant_tokens (constants.Num false units) = Num units ∷ []
constant_tokens (constants.Str text) = Str text ∷ []
constant_tokens (constants.Bool value) = Boolean value ∷ []
constant_tokens (constants.Err error) = Err error ∷ []

-- the constants of a row, with separators
abbrev pub row_tokens : List Constant → List Token
row_tokens row = joined Separator (map constant_tokens row)

-- the variable of a pair, and the tokens of its value
pub record PairTokens : Type 0 where
  pub variable : List ℕ
  pub value : List Token

-- variables and values in turn
abbrev pub pair_parts : List PairTokens → List (List Token)
pair_parts pairs = flat_map (λ pair. (Word pair.variable ∷ []) ∷ pair.value ∷ []) pairs

-- the name of a sheet; a tree that is well-formed has one with each word that has a sheet
abbrev pub sheet_name : Option (List ℕ) → List ℕ
sheet_name None = []
sheet_name (Some name) = name

-- the tokens of one node, from those of what is below it
abbrev pub yield_step : DialectMeaning → Tree-F (Option (List ℕ)) (List ℕ) (List Token) PairTokens → List Token
yield_step d (one.Num units) = Num units ∷ []
yield_step d (one.Str text) = Str text ∷ []
yield_step d (one.Bool value) = Boolean value ∷ []
yield_step d (one.Err error) = Err error ∷ []
yield_step d (one.Reference sheet place) = Ref (record { sheet = sheet; place = place }) ∷ []
yield_step d (one.Local sheet word) = Local (sheet_name sheet) word ∷ []
yield_step d (one.Word text) = Word text ∷ []
yield_step d one.Empty = []
yield_step d (one.Paren x) = Open ∷ x ++ Close ∷ []
yield_step d (one.Prefix sign x) = prefix_token sign ∷ x
yield_step d (one.Percent x) = x ++ Percent ∷ []
yield_step d (one.Spill x) = x ++ Hash ∷ []
yield_step d (one.Binary sign a b) = a ++ Operator sign ∷ b
yield_step d (one.Fun number arguments) = FunHead number ∷ joined Separator arguments ++ Close ∷ []
yield_step d (one.Call name arguments) = NameHead name ∷ joined Separator arguments ++ Close ∷ []
yield_step d (one.Let pairs body) = FunHead d.let_fn ∷ joined Separator (pair_parts pairs ++ body ∷ []) ++ Close ∷ []
yield_step d (one.Lambda parameters body) = FunHead d.lambda_fn ∷ joined Separator (map (λ p. Word p ∷ []) parameters ++ body ∷ []) ++ Close ∷ []
yield_step d (one.Apply x arguments) = x ++ Open ∷ joined Separator arguments ++ Close ∷ []
yield_step d (one.Array rows) = OpenBrace ∷ joined (row_sign d) (map row_tokens rows) ++ CloseBrace ∷ []

-- the same of a pair of LET
abbrev pub pair_step : LetPair-F (Option (List ℕ)) (List ℕ) (List Token) PairTokens → PairTokens
pair_step pair = record { variable = pair.variable; value = pair.value }

-- the tokens of a tree
abbrev pub yield : DialectMeaning → Spelled → List Token
yield d t = fold-Tree (Option (List ℕ)) (List ℕ) (List Token) PairTokens (yield_step d) pair_step t
