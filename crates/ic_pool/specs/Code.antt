-- The code of a formula: a list of bytes, which no other formula has. A formula is taken apart node by node; each node gives
-- the number of its kind with its other numbers, its texts in rows, and what stands below it.
use Rattle.std.specs.Prelude.{◌≡◌, ℕ, ℤ, pos, negsuc, ◌/◌, ◌%◌, nat_abs, List, [], ◌∷◌, ◌++◌, Bool, true, false, Option, Some, None, map}
use Rattle.ic_laws.specs.Binding.{BoundPair}
use Rattle.ic_laws.specs.Tree.{Bound}
use Rattle.ic_laws.specs.declared.reference.Place.{Place}
use Rattle.ic_laws.specs.declared.reference.Place.TheVariants as places
use Rattle.ic_laws.specs.declared.reference.Position.{Position}
use Rattle.ic_laws.specs.declared.reference.Position.TheVariants as at
use Rattle.ic_laws.specs.declared.reference.RefPart.{RefPart}
use Rattle.ic_laws.specs.declared.tree.BinarySign.{BinarySign}
use Rattle.ic_laws.specs.declared.tree.BinarySign.TheVariants as signs
use Rattle.ic_laws.specs.declared.tree.Constant.{Constant}
use Rattle.ic_laws.specs.declared.tree.Constant.TheVariants as constants
use Rattle.ic_laws.specs.declared.tree.Error.{Error}
use Rattle.ic_laws.specs.declared.tree.Error.TheVariants as errors
use Rattle.ic_laws.specs.declared.tree.Formula.{Formula}
use Rattle.ic_laws.specs.declared.tree.Formula.TheVariants as formulas
use Rattle.ic_laws.specs.declared.tree.LetPair.{fold-LetPair}
use Rattle.ic_laws.specs.declared.tree.NameMention.{NameMention}
use Rattle.ic_laws.specs.declared.tree.NameMention.TheVariants as words
use Rattle.ic_laws.specs.declared.tree.PrefixSign.{PrefixSign}
use Rattle.ic_laws.specs.declared.tree.PrefixSign.TheVariants as prefixes
use Rattle.ic_laws.specs.declared.tree.SheetMention.{SheetMention}
use Rattle.ic_laws.specs.declared.tree.SheetMention.TheVariants as sheets
use Rattle.ic_laws.specs.declared.tree.Tree.{Tree-F, fold-Tree}
use Rattle.ic_laws.specs.declared.tree.Tree.TheOpen.{LetPair-F}
use Rattle.ic_laws.specs.declared.tree.Tree.TheOpen as one
use Rattle.ic_pool.specs.Bytes.{all_bytes, number_bytes, text_bytes}

-- one node of a formula, with these below it
abbrev pub Node : Type 0 → Type 0 → Type 0
Node A B = Tree-F SheetMention NameMention A B

-- ---- what stands at a node, as numbers

-- 1 for true
abbrev pub bit : Bool → ℕ
bit false = 0
bit true = 1

-- 1 below zero, else 0
abbrev pub int_sign : ℤ → ℕ
int_sign (pos n) = 0
int_sign (negsuc n) = 1

-- a number without its sign
abbrev pub int_size : ℤ → ℕ
int_size z = nat_abs z

-- an amount's size in units of 2^63
abbrev pub high : ℕ → ℕ
high n = n / 0x8000_0000_0000_0000

-- and in its rest
abbrev pub low : ℕ → ℕ
low n = n % 0x8000_0000_0000_0000

-- an error by its number
abbrev pub error_number : Error → ℕ
error_number errors.REF = 0
error_number errors.NAME = 1
error_number errors.VALUE = 2
error_number errors.DIV = 3
error_number errors.NA = 4
error_number errors.NUM = 5
error_number errors.NIMPL = 6
error_number errors.SPILL = 7
error_number errors.CALC = 8
error_number errors.CIRC = 9
error_number errors.ERROR = 10
error_number errors.NULL = 11

-- a sign before its operand by its number
abbrev pub prefix_number : PrefixSign → ℕ
prefix_number prefixes.Plus = 0
prefix_number prefixes.Minus = 1
prefix_number prefixes.At = 2

-- a sign between two operands by its number
abbrev pub sign_number : BinarySign → ℕ
sign_number signs.Equal = 0
sign_number signs.Unequal = 1
sign_number signs.Less = 2
sign_number signs.Greater = 3
sign_number signs.AtMost = 4
sign_number signs.AtLeast = 5
sign_number signs.Join = 6
sign_number signs.Plus = 7
sign_number signs.Minus = 8
sign_number signs.Times = 9
sign_number signs.Over = 10
sign_number signs.Power = 11

-- 0 for a row or column by its own number, 1 for one that is counted from the cell
abbrev pub position_kind : Position → ℕ
position_kind (at.Abs n) = 0
position_kind (at.Rel n) = 1

-- that number
abbrev pub position_value : Position → ℤ
position_value (at.Abs n) = n
position_value (at.Rel n) = n

-- a corner of a reference: its row and its column
abbrev pub part_numbers : RefPart → List ℕ
part_numbers part =
    position_kind part.row ∷ int_sign (position_value part.row) ∷ int_size (position_value part.row) ∷ position_kind part.column
    ∷ int_sign (position_value part.column) ∷ int_size (position_value part.column) ∷ []

-- a cell or a range
abbrev pub place_numbers : Place → List ℕ
place_numbers (places.Cell part) = 0 ∷ part_numbers part
place_numbers (places.Range first last) = 1 ∷ (part_numbers first ++ part_numbers last)

-- whether a reference is to its own sheet, to one that was found, or to none
abbrev pub sheet_kind : SheetMention → ℕ
sheet_kind sheets.Own = 0
sheet_kind (sheets.Sheet id) = 1
sheet_kind (sheets.Dangling name) = 2

-- the id of the sheet, if it was found
abbrev pub sheet_id : SheetMention → ℕ
sheet_id (sheets.Sheet id) = id
sheet_id mention = 0

-- the name of the sheet as it was typed, if none was found
abbrev pub sheet_text : SheetMention → List ℕ
sheet_text (sheets.Dangling name) = name
sheet_text mention = []

-- the id of the sheet that a definition is local to, if there is one
abbrev pub scope_numbers : Option ℕ → List ℕ
scope_numbers None = []
scope_numbers (Some id) = id ∷ []

-- whether a word is a variable, a definition that was found, or neither
abbrev pub word_numbers : NameMention → List ℕ
word_numbers (words.Var name) = 0 ∷ []
word_numbers (words.Name key) = 1 ∷ scope_numbers key.scope
word_numbers (words.Dangling name) = 2 ∷ []

-- the text of a word
abbrev pub word_text : NameMention → List ℕ
word_text (words.Var name) = name
word_text (words.Name key) = key.name
word_text (words.Dangling name) = name

-- what stands in an array
abbrev pub constant_text : Constant → List ℕ
constant_text (constants.Num minus amount) = 0 ∷ bit minus ∷ int_sign amount ∷ high (int_size amount) ∷ low (int_size amount) ∷ []
constant_text (constants.Str text) = 1 ∷ text
constant_text (constants.Bool value) = 2 ∷ bit value ∷ []
constant_text (constants.Err error) = 3 ∷ error_number error ∷ []

-- ---- the parts of a node

-- the number of its kind, and its other numbers
abbrev pub numbers : {A B : Type 0} → Node A B → List ℕ
numbers (one.Num amount) = 0 ∷ int_sign amount ∷ high (int_size amount) ∷ low (int_size amount) ∷ []
numbers (one.Str text) = 1 ∷ []
numbers (one.Bool value) = 2 ∷ bit value ∷ []
numbers (one.Err error) = 3 ∷ error_number error ∷ []
numbers (one.Reference sheet place) = 4 ∷ sheet_kind sheet ∷ sheet_id sheet ∷ place_numbers place
numbers (one.Word word) = 5 ∷ word_numbers word
numbers one.Empty = 6 ∷ []
numbers (one.Paren x) = 7 ∷ []
numbers (one.Prefix sign x) = 8 ∷ prefix_number sign ∷ []
numbers (one.Percent x) = 9 ∷ []
numbers (one.Spill x) = 10 ∷ []
numbers (one.Binary sign a b) = 11 ∷ sign_number sign ∷ []
numbers (one.Fun number arguments) = 12 ∷ number ∷ []
numbers (one.Call word arguments) = 13 ∷ word_numbers word
numbers (one.Let pairs body) = 14 ∷ []
numbers (one.Lambda parameters body) = 15 ∷ []
numbers (one.Apply x arguments) = 16 ∷ []
numbers (one.Array rows) = 17 ∷ []
numbers (one.Local sheet word) = 18 ∷ sheet_kind sheet ∷ sheet_id sheet ∷ word_numbers word

-- its texts, in rows
abbrev pub texts : {A B : Type 0} → Node A B → List (List (List ℕ))
texts (one.Str text) = (text ∷ []) ∷ []
texts (one.Reference sheet place) = (sheet_text sheet ∷ []) ∷ []
texts (one.Local sheet word) = (sheet_text sheet ∷ word_text word ∷ []) ∷ []
texts (one.Word word) = (word_text word ∷ []) ∷ []
texts (one.Call word arguments) = (word_text word ∷ []) ∷ []
texts (one.Lambda parameters body) = parameters ∷ []
texts (one.Array rows) = map (map constant_text) rows
texts kind = []

-- the variables of LET
abbrev pub pairs_of : {A B : Type 0} → Node A B → List B
pairs_of (one.Let pairs body) = pairs
pairs_of kind = []

-- the formulas that stand below it
abbrev pub trees_of : {A B : Type 0} → Node A B → List A
trees_of (one.Paren x) = x ∷ []
trees_of (one.Prefix sign x) = x ∷ []
trees_of (one.Percent x) = x ∷ []
trees_of (one.Spill x) = x ∷ []
trees_of (one.Binary sign a b) = a ∷ b ∷ []
trees_of (one.Fun number arguments) = arguments
trees_of (one.Call word arguments) = arguments
trees_of (one.Let pairs body) = body ∷ []
trees_of (one.Lambda parameters body) = body ∷ []
trees_of (one.Apply x arguments) = x ∷ arguments
trees_of kind = []

-- ---- the code

-- the texts of a node
abbrev pub rows_bytes : List (List (List ℕ)) → List ℕ
rows_bytes rows = all_bytes (all_bytes text_bytes) rows

-- one node, what stands below it written already
abbrev pub code_step : Node (List ℕ) (List ℕ) → List ℕ
code_step kind =
    text_bytes (numbers kind) ++ (rows_bytes (texts kind) ++ (all_bytes (λ c. c) (pairs_of kind) ++ all_bytes (λ c. c) (trees_of kind)))

-- a variable of LET, its value written already
abbrev pub pair_step : LetPair-F SheetMention NameMention (List ℕ) (List ℕ) → List ℕ
pair_step pair = text_bytes pair.variable ++ pair.value

-- a formula that reads
abbrev pub tree_code : Bound → List ℕ
tree_code t = fold-Tree SheetMention NameMention (List ℕ) (List ℕ) code_step pair_step t

-- a variable of LET with its value
abbrev pub pair_code : BoundPair → List ℕ
pair_code pair = fold-LetPair SheetMention NameMention (List ℕ) (List ℕ) code_step pair_step pair

-- a formula, or the text of one that doesn't read
abbrev pub code : Formula → List ℕ
code (formulas.Tree t) = number_bytes 0 ++ tree_code t
code (formulas.Raw text) = number_bytes 1 ++ text_bytes text

-- equal codes are codes of equal formulas
abbrev pub CodesDetermine : Type 0
CodesDetermine = (a b : Formula) → code a ≡ code b → a ≡ b
