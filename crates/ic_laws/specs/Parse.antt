-- How a list of tokens is read as a tree: by operands, with loops for the signs after and between them.
use Rattle.std.specs.Prelude.{ℕ, zero, suc, ◌+◌, List, [], ◌∷◌, length, Bool, true, false, ◌&&◌, Option, Some, None, option_map, option_and_then, nat_eq, nat_le, if◌then◌else◌}
use Rattle.ic_laws.specs.Character.{comma}
use Rattle.ic_laws.specs.Name.{is_identifier, is_sheet_name, is_variable}
use Rattle.ic_laws.specs.Dialect.{DialectMeaning}
use Rattle.ic_laws.specs.Position.{is_place_within}
use Rattle.ic_laws.specs.Token.{Token, Num, Str, Boolean, Err, Ref, Local, Word, FunHead, NameHead, Separator, Operator, At, Percent, Hash, Open, Close, OpenBrace, CloseBrace, Semicolon}
use Rattle.ic_laws.specs.Tree.{Spelled, Kind, sign_level, height, is_callable, is_called_name, is_written_sheet, is_unsigned}
use Rattle.ic_laws.specs.declared.tree.BinarySign.{BinarySign}
use Rattle.ic_laws.specs.declared.tree.BinarySign.TheVariants as signs
use Rattle.ic_laws.specs.declared.tree.Constant.{Constant}
use Rattle.ic_laws.specs.declared.tree.Constant.TheVariants as constants
use Rattle.ic_laws.specs.declared.tree.LetPair.{LetPair, roll-LetPair}
use Rattle.ic_laws.specs.declared.tree.PrefixSign.{PrefixSign}
use Rattle.ic_laws.specs.declared.tree.PrefixSign.TheVariants as prefixes
use Rattle.ic_laws.specs.declared.tree.Tree.{roll-Tree}
use Rattle.ic_laws.specs.declared.tree.Tree.TheOpen as one

-- what is read at the front of a list of tokens, and what stands after it
abbrev pub Read : Type 0 → Type 0
Read A = Option (A × List Token)

-- reads a tree, with so many brackets left to open, that binds at least so tightly
abbrev pub Reader : Type 0
Reader = ℕ → ℕ → List Token → Read Spelled

-- the kind of a node of a spelled tree
abbrev pub SpelledKind : Type 0
SpelledKind = Kind (Option (List ℕ)) (List ℕ)

-- the tree of such a node
abbrev pub node : SpelledKind → Spelled
node kind = roll-Tree (Option (List ℕ)) (List ℕ) kind

-- a variable of LET with its value
abbrev pub Pair : Type 0
Pair = LetPair (Option (List ℕ)) (List ℕ)

-- the pair of a variable and a value
abbrev pub pair_of : List ℕ → Spelled → Pair
pair_of variable value = roll-LetPair (Option (List ℕ)) (List ℕ) (record { variable = variable; value = value })

-- a tree is taken where it isn't too high
abbrev pub made : ℕ → SpelledKind → List Token → Read Spelled
made most kind rest = if nat_le (height (node kind)) most then Some (node kind, rest) else None

-- a leaf is taken where it is what it may be
abbrev pub made_if : Bool → ℕ → SpelledKind → List Token → Read Spelled
made_if good most kind rest = if good then made most kind rest else None

-- what stands after a separator
abbrev pub past_separator : List Token → Option (List Token)
past_separator (Separator ∷ rest) = Some rest
past_separator ts = None

-- what stands after a closing bracket
abbrev pub past_close : List Token → Option (List Token)
past_close (Close ∷ rest) = Some rest
past_close ts = None

-- what stands after a closing brace
abbrev pub past_brace : List Token → Option (List Token)
past_brace (CloseBrace ∷ rest) = Some rest
past_brace ts = None

-- what stands after the sign between two rows
abbrev pub past_row_sign : DialectMeaning → List Token → Option (List Token)
past_row_sign d (Semicolon ∷ rest) = if nat_eq d.list comma then Some rest else None
past_row_sign d (Operator signs.Over ∷ rest) = if nat_eq d.list comma then None else Some rest
past_row_sign d ts = None

-- a value with what must stand after it
abbrev pub followed : {A : Type 0} → (List Token → Option (List Token)) → Read A → Read A
followed past read = option_and_then (λ first. option_map (λ rest. (first.0, rest)) (past first.1)) read

-- one or more items with a sign between each two of them; the fuel is at least their number
unfoldable pub listed : {A : Type 0} → (List Token → Read A) → (List Token → Option (List Token)) → ℕ → List Token → Read (List A)
listed item past zero ts = None
listed item past (suc fuel) ts =
    option_and_then
    (λ first. elim (past first.1) [
      | Some rest ↦ option_map (λ others. (first.0 ∷ others.0, others.1)) (listed item past fuel rest)
      | None ↦ Some (first.0 ∷ [], first.1)
    ])
    (item ts)

-- an argument ends at a separator or at a closing bracket
abbrev pub ends_argument : List Token → Bool
ends_argument (Separator ∷ rest) = true
ends_argument (Close ∷ rest) = true
ends_argument ts = false

-- an argument, which is left out where it ends at once
unfoldable pub argument : Reader → ℕ → List Token → Read Spelled
argument below b ts = if ends_argument ts then Some (node one.Empty, ts) else below b 1 ts

-- the arguments up to the closing bracket: none where it stands at once
unfoldable pub arguments : Reader → ℕ → List Token → Read (List Spelled)
arguments below b ts = elim (past_close ts) [
  | Some rest ↦ Some ([], rest)
  | None ↦ followed past_close (listed (argument below b) past_separator (length ts) ts)
]

-- a variable with the separator after it
unfoldable pub binder : List Token → Read (List ℕ)
binder (Word name ∷ Separator ∷ rest) = if is_variable name then Some (name, rest) else None
binder ts = None

-- the variables, values and body of LET; the fuel is at least the number of the pairs and the body
unfoldable pub let_parts : Reader → ℕ → ℕ → List Token → Read (List Pair × Spelled)
let_parts below b zero ts = None
let_parts below b (suc fuel) ts = elim (binder ts) [
  | Some begun ↦ option_and_then
      (λ value. option_map (λ parts. ((pair_of begun.0 value.0 ∷ parts.0.0, parts.0.1), parts.1)) (let_parts below b fuel value.1))
      (followed past_separator (below b 1 begun.1))
  | None ↦ option_map (λ body. (([], body.0), body.1)) (followed past_close (below b 1 ts))
]

-- the parameters and the body of LAMBDA; the fuel is at least the number of the parameters and the body
unfoldable pub lambda_parts : Reader → ℕ → ℕ → List Token → Read (List (List ℕ) × Spelled)
lambda_parts below b zero ts = None
lambda_parts below b (suc fuel) ts = elim (binder ts) [
  | Some begun ↦ option_map (λ parts. ((begun.0 ∷ parts.0.0, parts.0.1), parts.1)) (lambda_parts below b fuel begun.1)
  | None ↦ option_map (λ body. (([], body.0), body.1)) (followed past_close (below b 1 ts))
]

-- LET, whose head is read: it has a pair at least
unfoldable pub let_call : ℕ → Reader → ℕ → List Token → Read Spelled
let_call most below b ts =
    option_and_then (λ parts. elim parts.0.0 [
      | [] ↦ None
      | pair ∷ pairs ↦ made most (one.Let (pair ∷ pairs) parts.0.1) parts.1
    ]) (let_parts below b (length ts) ts)

-- LAMBDA, whose head is read
unfoldable pub lambda_call : ℕ → Reader → ℕ → List Token → Read Spelled
lambda_call most below b ts =
    option_and_then (λ parts. made most (one.Lambda parts.0.0 parts.0.1) parts.1) (lambda_parts below b (length ts) ts)

-- a function, whose head is read
unfoldable pub function_call : DialectMeaning → ℕ → Reader → ℕ → ℕ → List Token → Read Spelled
function_call d most below b number ts =
    if nat_eq number d.let_fn then let_call most below b ts
    else if nat_eq number d.lambda_fn then lambda_call most below b ts
    else option_and_then (λ read. made most (one.Fun number read.0) read.1) (arguments below b ts)

-- a called name, whose head is read
unfoldable pub name_call : ℕ → Reader → ℕ → List ℕ → List Token → Read Spelled
name_call most below b name ts =
    if is_called_name name then option_and_then (λ read. made most (one.Call name read.0) read.1) (arguments below b ts) else None

-- a tree between brackets, the first of which is read
unfoldable pub bracketed : ℕ → Reader → ℕ → List Token → Read Spelled
bracketed most below b ts = option_and_then (λ read. made most (one.Paren read.0) read.1) (followed past_close (below b 1 ts))

-- an amount in an array, with a minus before it or none
abbrev pub amount_of : Bool → List Token → Read Constant
amount_of minus (Num units ∷ rest) = if is_unsigned units then Some (constants.Num minus units, rest) else None
amount_of minus ts = None

-- a constant in an array
abbrev pub constant : List Token → Read Constant
constant (Operator signs.Minus ∷ rest) = amount_of true rest
constant (Str text ∷ rest) = Some (constants.Str text, rest)
constant (Boolean value ∷ rest) = Some (constants.Bool value, rest)
constant (Err error ∷ rest) = Some (constants.Err error, rest)
constant ts = amount_of false ts

-- a row of an array
abbrev pub row : List Token → Read (List Constant)
row ts = listed constant past_separator (length ts) ts

-- an array, whose brace is read
unfoldable pub array : DialectMeaning → ℕ → List Token → Read Spelled
array d most ts = option_and_then (λ read. made most (one.Array read.0) read.1) (followed past_brace (listed row (past_row_sign d) (length ts) ts))

-- what opens a bracket is read where one is left to open
abbrev pub opened : {A : Type 0} → ℕ → (ℕ → Read A) → Read A
opened zero inside = None
opened (suc b) inside = inside b

-- an operand without signs, by its first token
unfoldable pub primary : DialectMeaning → ℕ → Reader → ℕ → Token → List Token → Read Spelled
primary d most below b (Num units) rest = made_if (is_unsigned units) most (one.Num units) rest
primary d most below b (Str text) rest = made most (one.Str text) rest
primary d most below b (Boolean value) rest = made most (one.Bool value) rest
primary d most below b (Err error) rest = made most (one.Err error) rest
primary d most below b (Ref reference) rest =
    made_if (is_written_sheet reference.sheet && is_place_within reference.place) most (one.Reference reference.sheet reference.place) rest
primary d most below b (Local sheet word) rest = made_if (is_sheet_name sheet && is_identifier word) most (one.Local (Some sheet) word) rest
primary d most below b (Word text) rest = made_if (is_variable text) most (one.Word text) rest
primary d most below b (FunHead number) rest = opened b (λ inner. function_call d most below inner number rest)
primary d most below b (NameHead name) rest = opened b (λ inner. name_call most below inner name rest)
primary d most below b Open rest = opened b (λ inner. bracketed most below inner rest)
primary d most below b OpenBrace rest = opened b (λ inner. array d most rest)
primary d most below b token rest = None

-- what an operand becomes by turns, up to the first that has nothing to take; the fuel is more than their number
unfoldable pub turns : (Spelled → List Token → Option (Read Spelled)) → ℕ → Spelled → List Token → Read Spelled
turns turn zero left ts = None
turns turn (suc fuel) left ts = elim (turn left ts) [
  | None ↦ Some (left, ts)
  | Some read ↦ option_and_then (λ next. turns turn fuel next.0 next.1) read
]

-- a tree that is called, with the arguments up to the closing bracket
unfoldable pub applied : ℕ → Reader → ℕ → Spelled → List Token → Read Spelled
applied most below b left ts = option_and_then (λ read. made most (one.Apply left read.0) read.1) (arguments below b ts)

-- what stands after an operand: `%`, `#`, or arguments where the operand can be called
unfoldable pub postfix : ℕ → Reader → ℕ → Spelled → List Token → Option (Read Spelled)
postfix most below b left (Percent ∷ rest) = Some (made most (one.Percent left) rest)
postfix most below b left (Hash ∷ rest) = Some (made most (one.Spill left) rest)
postfix most below b left (Open ∷ rest) = if is_callable left then Some (opened b (λ inner. applied most below inner left rest)) else None
postfix most below b left ts = None

-- an operand with all that stands after it
abbrev pub postfixes : ℕ → Reader → ℕ → ℕ → Spelled → List Token → Read Spelled
postfixes most below b fuel left ts = turns (postfix most below b) fuel left ts

-- a tree joined by a sign to the operand after it, which binds more tightly than the sign
unfoldable pub joined_by : ℕ → Reader → ℕ → BinarySign → Spelled → List Token → Read Spelled
joined_by most below b sign left ts =
    option_and_then (λ right. made most (one.Binary sign left right.0) right.1) (below b (sign_level sign + 1) ts)

-- what joins a tree to an operand after it: a sign that binds at least so tightly
unfoldable pub binary : ℕ → Reader → ℕ → ℕ → Spelled → List Token → Option (Read Spelled)
binary most below b least left (Operator sign ∷ rest) = if nat_le least (sign_level sign) then Some (joined_by most below b sign left rest) else None
binary most below b least left ts = None

-- a tree with all that is joined to it
abbrev pub binaries : ℕ → Reader → ℕ → ℕ → ℕ → Spelled → List Token → Read Spelled
binaries most below b least fuel left ts = turns (binary most below b least) fuel left ts

-- a sign before an operand
unfoldable pub prefix_sign : Token → Option PrefixSign
prefix_sign (Operator signs.Plus) = Some prefixes.Plus
prefix_sign (Operator signs.Minus) = Some prefixes.Minus
prefix_sign At = Some prefixes.At
prefix_sign token = None

-- a sign before an operand, which may have such a sign itself
unfoldable pub prefixed : ℕ → Reader → ℕ → PrefixSign → List Token → Read Spelled
prefixed most below b sign ts = option_and_then (λ x. made most (one.Prefix sign x.0) x.1) (below b 6 ts)

-- an operand: a sign and what it stands before, or one without signs and what stands after it
unfoldable pub operand : DialectMeaning → ℕ → Reader → ℕ → List Token → Read Spelled
operand d most below b [] = None
operand d most below b (token ∷ rest) = elim (prefix_sign token) [
  | Some sign ↦ prefixed most below b sign rest
  | None ↦ option_and_then (λ first. postfixes most below b most first.0 first.1) (primary d most below b token rest)
]

-- an operand and what is joined to it
unfoldable pub expression : DialectMeaning → ℕ → Reader → Reader
expression d most below b least ts = option_and_then (λ first. binaries most below b least most first.0 first.1) (operand d most below b ts)

-- a tree no higher than a number
unfoldable pub reader : DialectMeaning → ℕ → Reader
reader d zero b least ts = None
reader d (suc most) b least ts = expression d (suc most) (reader d most) b least ts

-- a tree is the whole where nothing stands after it
abbrev pub nothing_after : Spelled → List Token → Option Spelled
nothing_after t [] = Some t
nothing_after t (token ∷ rest) = None

-- the tree of a list of tokens
unfoldable pub parsed : DialectMeaning → List Token → Option Spelled
parsed d ts = option_and_then (λ read. nothing_after read.0 read.1) (reader d 1024 128 1 ts)
