-- Formulas as trees: how tightly each kind binds, how high a tree is, how many brackets are open in it, and when it is
-- well-formed.
use Rattle.std.specs.Prelude.{◌≡◌, ◌≢◌, ℕ, ℤ, ◌+◌, ◌≤◌, max, List, [], ◌∷◌, Bool, true, false, not, ◌&&◌, codes, Option, Some, None, int_le, pos}
use Rattle.std.specs.List.{list_all}
use Rattle.ic_laws.specs.Amount.{is_amount}
use Rattle.ic_laws.specs.Greatest.{greatest}
use Rattle.ic_laws.specs.Name.{agrees, is_identifier, is_sheet_name, is_variable}
use Rattle.ic_laws.specs.Position.{is_place_within}
use Rattle.ic_laws.specs.declared.tree.BinarySign.{BinarySign}
use Rattle.ic_laws.specs.declared.tree.BinarySign.TheVariants as signs
use Rattle.ic_laws.specs.declared.tree.Constant.{Constant}
use Rattle.ic_laws.specs.declared.tree.Constant.TheVariants as constants
use Rattle.ic_laws.specs.declared.tree.LetPair.{LetPair}
use Rattle.ic_laws.specs.declared.tree.NameMention.{NameMention}
use Rattle.ic_laws.specs.declared.tree.NameMention.TheVariants as names
use Rattle.ic_laws.specs.declared.tree.SheetMention.{SheetMention}
use Rattle.ic_laws.specs.declared.tree.SheetMention.TheVariants as sheets
use Rattle.ic_laws.specs.declared.tree.Tree.{Tree, Tree-F, out-Tree, fold-Tree, every-Tree}
use Rattle.ic_laws.specs.declared.tree.Tree.TheOpen.{LetPair-F}
use Rattle.ic_laws.specs.declared.tree.Tree.TheOpen as one

-- a formula as its text spells it: a reference has the name of a sheet or none, a word is its text
abbrev pub Spelled : Type 0
Spelled = Tree (Option (List ℕ)) (List ℕ)

-- a formula whose mentions are found or dangling
abbrev pub Bound : Type 0
Bound = Tree SheetMention NameMention

-- the kind of a node, with the trees below it
abbrev pub Kind : Type 0 → Type 0 → Type 0
Kind S W = Tree-F S W (Tree S W) (LetPair S W)

-- How tightly a sign binds, from comparisons on.
abbrev pub sign_level : BinarySign → ℕ
sign_level signs.Equal = 1
sign_level signs.Unequal = 1
sign_level signs.Less = 1
sign_level signs.Greater = 1
sign_level signs.AtMost = 1
sign_level signs.AtLeast = 1
sign_level signs.Join = 2
sign_level signs.Plus = 3
sign_level signs.Minus = 3
sign_level signs.Times = 4
sign_level signs.Over = 4
sign_level signs.Power = 5

-- a sign before its operand has level 6, one after it and a call of what a tree gives level 7, all else level 8
abbrev pub kind_level : {S W : Type 0} → Kind S W → ℕ
kind_level (one.Binary sign a b) = sign_level sign
kind_level (one.Prefix sign x) = 6
kind_level (one.Percent x) = 7
kind_level (one.Spill x) = 7
kind_level (one.Apply x arguments) = 7
kind_level kind = 8

-- the same of a tree
abbrev pub level : {S W : Type 0} → Tree S W → ℕ
level {S} {W} t = kind_level (out-Tree S W t)

-- an argument that is left out
abbrev pub is_empty_kind : {S W : Type 0} → Kind S W → Bool
is_empty_kind one.Empty = true
is_empty_kind kind = false

-- the same of a tree
abbrev pub is_empty : {S W : Type 0} → Tree S W → Bool
is_empty {S} {W} t = is_empty_kind (out-Tree S W t)

-- what ends with a closing bracket can be called
abbrev pub is_callable_kind : {S W : Type 0} → Kind S W → Bool
is_callable_kind (one.Paren x) = true
is_callable_kind (one.Fun number arguments) = true
is_callable_kind (one.Call word arguments) = true
is_callable_kind (one.Let pairs body) = true
is_callable_kind (one.Lambda parameters body) = true
is_callable_kind (one.Apply x arguments) = true
is_callable_kind kind = false

-- the same of a tree
abbrev pub is_callable : {S W : Type 0} → Tree S W → Bool
is_callable {S} {W} t = is_callable_kind (out-Tree S W t)

-- The height: a leaf, an argument that is left out and a whole array are one node each.
abbrev pub height_step : {S W : Type 0} → Tree-F S W ℕ ℕ → ℕ
height_step (one.Paren x) = x + 1
height_step (one.Prefix sign x) = x + 1
height_step (one.Percent x) = x + 1
height_step (one.Spill x) = x + 1
height_step (one.Binary sign a b) = max a b + 1
height_step (one.Fun number arguments) = greatest arguments + 1
height_step (one.Call word arguments) = greatest arguments + 1
height_step (one.Let pairs body) = max (greatest pairs) body + 1
height_step (one.Lambda parameters body) = body + 1
height_step (one.Apply x arguments) = max x (greatest arguments) + 1
height_step kind = 1

-- the height of a tree
abbrev pub height : {S W : Type 0} → Tree S W → ℕ
height {S} {W} t = fold-Tree S W ℕ ℕ height_step (λ pair. pair.value) t

-- the most brackets `(` and `{` that are open at one place, those of heads among them
abbrev pub brackets_step : {S W : Type 0} → Tree-F S W ℕ ℕ → ℕ
brackets_step (one.Paren x) = x + 1
brackets_step (one.Prefix sign x) = x
brackets_step (one.Percent x) = x
brackets_step (one.Spill x) = x
brackets_step (one.Binary sign a b) = max a b
brackets_step (one.Fun number arguments) = greatest arguments + 1
brackets_step (one.Call word arguments) = greatest arguments + 1
brackets_step (one.Let pairs body) = max (greatest pairs) body + 1
brackets_step (one.Lambda parameters body) = body + 1
brackets_step (one.Apply x arguments) = max x (greatest arguments + 1)
brackets_step (one.Array rows) = 1
brackets_step kind = 0

-- the same of a tree
abbrev pub open_brackets : {S W : Type 0} → Tree S W → ℕ
open_brackets {S} {W} t = fold-Tree S W ℕ ℕ brackets_step (λ pair. pair.value) t

-- What is asked of names: of a sheet's, of a word, and of a word that is called; and of a word with its sheet, of both.
pub record Names (S W : Type 0) : Type 0 where
  pub is_sheet : S → Bool
  pub is_word : W → Bool
  pub is_called : W → Bool
  pub is_named : S → Bool
  pub is_local : W → Bool

-- a called word is a variable that is neither LET nor LAMBDA
abbrev pub is_called_name : List ℕ → Bool
is_called_name name = is_variable name && not (agrees name (codes "LET")) && not (agrees name (codes "LAMBDA"))

-- a sheet that is written has the name of one
abbrev pub is_written_sheet : Option (List ℕ) → Bool
is_written_sheet None = true
is_written_sheet (Some name) = is_sheet_name name

-- a word with its sheet has the name of one
abbrev pub is_named_sheet : Option (List ℕ) → Bool
is_named_sheet None = false
is_named_sheet (Some name) = is_sheet_name name

-- what is asked of the names of a spelled tree
abbrev pub spelled_names : Names (Option (List ℕ)) (List ℕ)
spelled_names = record { is_sheet = is_written_sheet; is_word = is_variable; is_called = is_called_name; is_named = is_named_sheet; is_local = is_identifier }

-- what was found meets the conditions by itself
abbrev pub is_sheet_mention : SheetMention → Bool
is_sheet_mention (sheets.Dangling name) = is_sheet_name name
is_sheet_mention mention = true

-- a word with its sheet isn't to the formula's own sheet
abbrev pub is_named_mention : SheetMention → Bool
is_named_mention sheets.Own = false
is_named_mention mention = is_sheet_mention mention

-- a word that was found is good, any other is what it may be
abbrev pub is_word_mention : (List ℕ → Bool) → NameMention → Bool
is_word_mention test (names.Var name) = test name
is_word_mention test (names.Name key) = true
is_word_mention test (names.Dangling name) = test name

-- what is asked of the names of a bound tree
abbrev pub bound_names : Names SheetMention NameMention
bound_names = record {
  is_sheet = is_sheet_mention;
  is_word = is_word_mention is_variable;
  is_called = is_word_mention is_called_name;
  is_named = is_named_mention;
  is_local = is_word_mention is_identifier;
}

-- an operand is there and binds at least so tightly
abbrev pub IsOperand : {S W : Type 0} → ℕ → Tree S W → Type 0
IsOperand least t = least ≤ level t

-- operands bind tightly enough: to the left at least as tightly as the sign, to the right more tightly
abbrev pub HasOperands : {S W : Type 0} → Kind S W → Type 0
HasOperands (one.Binary sign a b) = IsOperand (sign_level sign) a × IsOperand (sign_level sign + 1) b
HasOperands (one.Prefix sign x) = IsOperand 6 x
HasOperands (one.Percent x) = IsOperand 7 x
HasOperands (one.Spill x) = IsOperand 7 x
HasOperands (one.Apply x arguments) = IsOperand 7 x
HasOperands kind = Unit {0}

-- only what ends with a closing bracket is called
abbrev pub CallsCallable : {S W : Type 0} → Kind S W → Type 0
CallsCallable (one.Apply x arguments) = is_callable x ≡ true
CallsCallable kind = Unit {0}

-- a list of arguments isn't the one that is left out
abbrev pub is_argument_list : {S W : Type 0} → List (Tree S W) → Bool
is_argument_list (t ∷ []) = not (is_empty t)
is_argument_list arguments = true

-- so are the arguments of a call
abbrev pub HasArguments : {S W : Type 0} → Kind S W → Type 0
HasArguments (one.Fun number arguments) = is_argument_list arguments ≡ true
HasArguments (one.Call word arguments) = is_argument_list arguments ≡ true
HasArguments (one.Apply x arguments) = is_argument_list arguments ≡ true
HasArguments kind = Unit {0}

-- nothing but an argument is left out
abbrev pub IsThere : {S W : Type 0} → Tree S W → Type 0
IsThere t = is_empty t ≡ false

-- the parts of a node are there
abbrev pub HasParts : {S W : Type 0} → Kind S W → Type 0
HasParts (one.Paren x) = IsThere x
HasParts (one.Prefix sign x) = IsThere x
HasParts (one.Percent x) = IsThere x
HasParts (one.Spill x) = IsThere x
HasParts (one.Binary sign a b) = IsThere a × IsThere b
HasParts (one.Let pairs body) = IsThere body
HasParts (one.Lambda parameters body) = IsThere body
HasParts (one.Apply x arguments) = IsThere x
HasParts kind = Unit {0}

-- LET has a pair, an array a row, and each row a constant; rows may differ in length
abbrev pub has_constant : List Constant → Bool
has_constant [] = false
has_constant (c ∷ cs) = true

abbrev pub HasElements : {S W : Type 0} → Kind S W → Type 0
HasElements (one.Let pairs body) = pairs ≢ []
HasElements (one.Array rows) = (rows ≢ []) × (list_all has_constant rows ≡ true)
HasElements kind = Unit {0}

-- numbers are amounts and are written without a sign: from 0 on
abbrev pub is_unsigned : ℤ → Bool
is_unsigned units = int_le (pos 0) units && is_amount units

-- the same of a constant
abbrev pub is_unsigned_constant : Constant → Bool
is_unsigned_constant (constants.Num minus amount) = is_unsigned amount
is_unsigned_constant constant = true

-- the numbers of a node are such
abbrev pub HasUnsigned : {S W : Type 0} → Kind S W → Type 0
HasUnsigned (one.Num units) = is_unsigned units ≡ true
HasUnsigned (one.Array rows) = list_all (list_all is_unsigned_constant) rows ≡ true
HasUnsigned kind = Unit {0}

-- words, binders and called words are what they may be, and a function is neither LET nor LAMBDA
abbrev pub HasNames : {S W : Type 0} → Names S W → ℕ → ℕ → Kind S W → Type 0
HasNames names let_fn lambda_fn (one.Reference sheet place) = names.is_sheet sheet ≡ true
HasNames names let_fn lambda_fn (one.Local sheet word) = (names.is_named sheet ≡ true) × (names.is_local word ≡ true)
HasNames names let_fn lambda_fn (one.Word word) = names.is_word word ≡ true
HasNames names let_fn lambda_fn (one.Call word arguments) = names.is_called word ≡ true
HasNames names let_fn lambda_fn (one.Fun number arguments) = (number ≢ let_fn) × (number ≢ lambda_fn)
HasNames names let_fn lambda_fn (one.Lambda parameters body) = list_all is_variable parameters ≡ true
HasNames names let_fn lambda_fn kind = Unit {0}

-- references are within the limits of the stored form
abbrev pub HasPlaces : {S W : Type 0} → Kind S W → Type 0
HasPlaces (one.Reference sheet place) = is_place_within place ≡ true
HasPlaces kind = Unit {0}

-- what is asked of each node
pub record IsKindWell {S W : Type 0} (names : Names S W) (let_fn lambda_fn : ℕ) (kind : Kind S W) : Type 0 where
  pub operands : HasOperands kind
  pub called : CallsCallable kind
  pub arguments : HasArguments kind
  pub parts : HasParts kind
  pub elements : HasElements kind
  pub unsigned : HasUnsigned kind
  pub words : HasNames names let_fn lambda_fn kind
  pub places : HasPlaces kind

-- and of each pair of LET
pub record IsPairWell {S W : Type 0} (pair : LetPair-F S W (Tree S W) (LetPair S W)) : Type 0 where
  pub variable : is_variable pair.variable ≡ true
  pub value : IsThere pair.value

-- A tree is well-formed.
pub record IsWellFormed {S W : Type 0} (names : Names S W) (let_fn lambda_fn : ℕ) (t : Tree S W) : Type 0 where
  pub nodes : every-Tree S W (IsKindWell names let_fn lambda_fn) IsPairWell t
  pub there : IsThere t
  pub few_brackets : open_brackets t ≤ 128
  pub low : height t ≤ 1024
