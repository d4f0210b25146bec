-- The tokens of a formula, what spells each of them, and how a text falls into tokens.
use Rattle.std.specs.Prelude.{◌≡◌, ◌≢◌, ℕ, ℤ, pos, ◌≤◌, List, [], ◌∷◌, ◌++◌, Bool, true, false, ◌==◌, length, Some, None, option_map, codes}
use Rattle.std.specs.List.{list_all}
use Rattle.ic_laws.specs.Amount.{amount_text, unsigned_amount}
use Rattle.ic_laws.specs.Character.{double_quote, semicolon}
use Rattle.ic_laws.specs.Name.{is_variable}
use Rattle.ic_laws.specs.Scan.{begins_word, between, first_is, is_blank, is_word_character}
use Rattle.ic_laws.specs.Dialect.{DialectMeaning, boolean_number, error_number, word_text, reference_text}
use Rattle.ic_laws.specs.SheetText.{SpellsLocal, local_text}
use Rattle.ic_laws.specs.declared.dialect.WordKind.TheVariants as kinds
use Rattle.ic_laws.specs.declared.reference.RefToken.{RefToken}
use Rattle.ic_laws.specs.declared.tree.BinarySign.{BinarySign}
use Rattle.ic_laws.specs.declared.tree.BinarySign.TheVariants as signs
use Rattle.ic_laws.specs.declared.tree.Error.{Error}

-- A Local is a word with its sheet. A head is a name with the bracket that opens its arguments: a function by its number, or a called name. The row sign
-- `;` is a token of its own only where `;` doesn't separate arguments.
pub data Token : Type 0 where
  Num : (units : ℤ) → Token
  Str : (text : List ℕ) → Token
  Boolean : (value : Bool) → Token
  Err : (error : Error) → Token
  Ref : (reference : RefToken) → Token
  Local : (sheet word : List ℕ) → Token
  Word : (text : List ℕ) → Token
  FunHead : (number : ℕ) → Token
  NameHead : (name : List ℕ) → Token
  Separator : Token
  Operator : (sign : BinarySign) → Token
  At : Token
  Percent : Token
  Hash : Token
  Open : Token
  Close : Token
  OpenBrace : Token
  CloseBrace : Token
  Semicolon : Token

-- the text of a sign between operands
abbrev pub sign_text : BinarySign → List ℕ
sign_text signs.Equal = codes "="
sign_text signs.Unequal = codes "<>"
sign_text signs.Less = codes "<"
sign_text signs.Greater = codes ">"
sign_text signs.AtMost = codes "<="
sign_text signs.AtLeast = codes ">="
sign_text signs.Join = codes "&"
sign_text signs.Plus = codes "+"
sign_text signs.Minus = codes "-"
sign_text signs.Times = codes "*"
sign_text signs.Over = codes "/"
sign_text signs.Power = codes "^"

-- the mark round a text
abbrev pub is_double_quote : ℕ → Bool
is_double_quote c = c == double_quote

-- a text between quotes, each quote in it doubled; a text token is whole, so that no quote stands after it
abbrev pub string_text : List ℕ → List ℕ
string_text text = between double_quote text

-- a run of word characters that begins as a word does
abbrev pub IsRun : List ℕ → Type 0
IsRun run = (first_is begins_word run ≡ true) × (list_all is_word_character run ≡ true)

-- the same, and no word character stands after it
abbrev pub IsWholeRun : List ℕ → List ℕ → Type 0
IsWholeRun run rest = IsRun run × (first_is is_word_character rest ≡ false)

-- a run with an open bracket after it, blanks aside
pub record IsHead (name front : List ℕ) : Type 0 where
  pub blanks : List ℕ
  pub whole : front ≡ name ++ blanks ++ codes "("
  pub run : IsRun name
  pub blank : list_all is_blank blanks ≡ true

-- front spells the token where rest stands after it
abbrev pub Spells : DialectMeaning → Token → List ℕ → List ℕ → Type 0
Spells d (Num units) front rest = option_map pos (unsigned_amount d.decimal front) ≡ Some units
Spells d (Str text) front rest = (front ≡ string_text text) × (first_is is_double_quote rest ≡ false)
Spells d (Boolean value) front rest = IsWholeRun front rest × (d.find kinds.Boolean front ≡ Some (boolean_number value))
Spells d (Err error) front rest = d.find kinds.Error front ≡ Some (error_number error)
Spells d (Ref reference) front rest = d.read_ref (front ++ rest) ≡ Some (reference, rest)
Spells d (Local sheet word) front rest = SpellsLocal front sheet word × (first_is is_word_character rest ≡ false)
Spells d (Word text) front rest = (front ≡ text) × IsWholeRun front rest × (is_variable text ≡ true) × (d.find kinds.Boolean text ≡ None)
Spells d (FunHead number) front rest = (name : List ℕ) × IsHead name front × (d.find kinds.Function name ≡ Some number)
Spells d (NameHead name) front rest = IsHead name front × (is_variable name ≡ true) × (d.find kinds.Function name ≡ None)
Spells d Separator front rest = front ≡ d.list ∷ []
Spells d (Operator sign) front rest = front ≡ sign_text sign
Spells d At front rest = front ≡ codes "@"
Spells d Percent front rest = front ≡ codes "%"
Spells d Hash front rest = front ≡ codes "#"
Spells d Open front rest = front ≡ codes "("
Spells d Close front rest = front ≡ codes ")"
Spells d OpenBrace front rest = front ≡ codes "{"
Spells d CloseBrace front rest = front ≡ codes "}"
Spells d Semicolon front rest = (d.list ≢ semicolon) × (front ≡ codes ";")

-- of two tokens of one length a reference comes first, before a word above all
abbrev pub IsBefore : Token → Token → Type 0
IsBefore (Ref reference) other = Unit {0}
IsBefore token (Ref reference) = ⊥
IsBefore token other = Unit {0}

-- the longest token at the front of a text, and what stands after it
pub record Takes (d : DialectMeaning) (text : List ℕ) (token : Token) (rest : List ℕ) : Type 0 where
  pub front : List ℕ
  pub whole : text ≡ front ++ rest
  pub spelled : Spells d token front rest
  pub longest : (other after : List ℕ) (t : Token) → text ≡ other ++ after → Spells d t other after → length other ≤ length front
  pub first : (other after : List ℕ) (t : Token) → text ≡ other ++ after → Spells d t other after → length other ≡ length front → IsBefore token t

-- a text falls into tokens: blanks are skipped, the longest token is taken, and so on to the end
abbrev pub Lexes : DialectMeaning → List ℕ → List Token → Type 0
Lexes d text [] = list_all is_blank text ≡ true
Lexes d text (token ∷ tokens) =
    (blanks : List ℕ) × (unread : List ℕ) × (rest : List ℕ) × (list_all is_blank blanks ≡ true) × (text ≡ blanks ++ unread)
    × Takes d unread token rest × Lexes d rest tokens

-- a token in its canonical spelling
abbrev pub token_text : DialectMeaning → Token → List ℕ
token_text d (Num units) = amount_text d.decimal units
token_text d (Str text) = string_text text
token_text d (Boolean value) = word_text d kinds.Boolean (boolean_number value)
token_text d (Err error) = word_text d kinds.Error (error_number error)
token_text d (Ref reference) = reference_text d reference
token_text d (Local sheet word) = local_text sheet word
token_text d (Word text) = text
token_text d (FunHead number) = word_text d kinds.Function number ++ codes "("
token_text d (NameHead name) = name ++ codes "("
token_text d Separator = d.list ∷ []
token_text d (Operator sign) = sign_text sign
token_text d At = codes "@"
token_text d Percent = codes "%"
token_text d Hash = codes "#"
token_text d Open = codes "("
token_text d Close = codes ")"
token_text d OpenBrace = codes "{"
token_text d CloseBrace = codes "}"
token_text d Semicolon = codes ";"
