-- What a dialect means: its separators, its words and its references, and what always holds of them.
use Rattle.std.specs.Prelude.{◌≡◌, ◌≢◌, ℕ, ◌<◌, ◌≤◌, ◌^◌, List, [], ◌∷◌, ◌++◌, Bool, true, false, not, ◌&&◌, ◌||◌, ◌==◌, ◌⊎◌, length, drop, Option, Some, None, IsSome, option_map, unwrap_or, chars, codes, encode_utf8_all, if◌then◌else◌}
use Rattle.std.specs.Str.{IsCharBoundary}
use Rattle.std.specs.List.{list_all, list_any}
use Rattle.ic_laws.specs.Amount.{unsigned_text}
use Rattle.ic_laws.specs.Character.{comma, dot, hash, semicolon}
use Rattle.ic_laws.specs.Name.{Agree, is_identifier, is_sheet_name, is_variable, is_variable_form}
use Rattle.ic_laws.specs.Scan.{IsEnd, first_is, is_blank, is_digit, is_letter, is_word_character}
use Rattle.ic_laws.specs.SheetText.{local_text, read_local}
use Rattle.ic_laws.specs.declared.dialect.WordKind.{WordKind}
use Rattle.ic_laws.specs.declared.dialect.WordKind.TheVariants as kinds
use Rattle.ic_laws.specs.declared.reference.Place.{Place}
use Rattle.ic_laws.specs.declared.reference.RefToken.{RefToken}
use Rattle.ic_laws.specs.declared.tree.Error.{Error}
use Rattle.ic_laws.specs.declared.tree.Error.TheVariants as errors

-- the separators of arguments and of decimals; the words by kind and number, and what text is which of them; the
-- numbers of LET and LAMBDA; the longest reference at the front of a text, with what stands after it; which references
-- can be spelled, and how
pub record DialectMeaning : Type 0 where
  pub list : ℕ
  pub decimal : ℕ
  pub word : WordKind → ℕ → Option (List ℕ)
  pub find : WordKind → List ℕ → Option ℕ
  pub let_fn : ℕ
  pub lambda_fn : ℕ
  pub read_ref : List ℕ → Option (RefToken × List ℕ)
  pub can_spell : RefToken → Bool
  pub spell_ref : RefToken → List ℕ

-- an error's number is its place in the list
abbrev pub error_number : Error → ℕ
error_number errors.REF = 0
error_number errors.NAME = 1
error_number errors.VALUE = 2
error_number errors.DIV = 3
error_number errors.NA = 4
error_number errors.NUM = 5
error_number errors.NIMPL = 6
error_number errors.SPILL = 7
error_number errors.CALC = 8
error_number errors.CIRC = 9
error_number errors.ERROR = 10
error_number errors.NULL = 11

-- true is the first boolean, false the second
abbrev pub boolean_number : Bool → ℕ
boolean_number true = 0
boolean_number false = 1

-- the word of a number; a dialect that lacks it has nothing to write
abbrev pub word_text : DialectMeaning → WordKind → ℕ → List ℕ
word_text d kind n = unwrap_or (d.word kind n) []

-- the text of a reference, and in its place the error word where it can't be spelled
abbrev pub reference_text : DialectMeaning → RefToken → List ℕ
reference_text d r = if d.can_spell r then d.spell_ref r else word_text d kinds.Error 0

-- a reference by the text of its sheet's name, if it has one
abbrev pub reference_to : Option (List ℕ) → Place → RefToken
reference_to sheet place = record { sheet = option_map chars sheet; place = place }

-- its text
abbrev pub spelled_place : DialectMeaning → Option (List ℕ) → Place → List ℕ
spelled_place d sheet place = reference_text d (reference_to sheet place)

-- a reference begins with a letter, a digit, `_`, `$` or a quote
abbrev pub begins_reference : ℕ → Bool
begins_reference c = is_letter c || is_digit c || list_any (λ x. c == x) (codes "_$'")

-- the characters that no error word has after its `#`
abbrev pub is_sign : ℕ → Bool
is_sign c = list_any (λ x. c == x) (codes "+-*/^&=<>%#@,;.(){}\"'")

-- an error word begins with `#`, and the character after it is no sign and no blank
abbrev pub has_error_shape : List ℕ → Bool
has_error_shape (c ∷ e ∷ cs) = c == hash && not (is_sign e) && not (is_blank e)
has_error_shape cs = false

-- a function word begins with a letter and has only word characters
abbrev pub has_function_shape : List ℕ → Bool
has_function_shape word = first_is is_letter word && list_all is_word_character word

-- what stands before an end and is no reference: the text of an amount, a boolean word, a variable
pub data IsWordOrAmount (d : DialectMeaning) : List ℕ → Type 0 where
  OfAmount : (units : ℕ) → units < 10 ^ 27 → IsWordOrAmount d (unsigned_text d.decimal units)
  OfBoolean : (n : ℕ) (word : List ℕ) → d.word kinds.Boolean n ≡ Some word → IsWordOrAmount d word
  OfVariable : (name : List ℕ) → is_variable name ≡ true → IsWordOrAmount d name

-- What always holds of a dialect.
pub record IsLawful (d : DialectMeaning) : Type 0 where
  -- the separators are `,` and `.`, or `;` and `,`
  pub separators : ((d.list ≡ comma) × (d.decimal ≡ dot)) ⊎ ((d.list ≡ semicolon) × (d.decimal ≡ comma))
  -- both booleans, all twelve errors, LET and LAMBDA have a word
  pub booleans : (n : ℕ) → n < 2 → IsSome (d.word kinds.Boolean n)
  pub errors : (n : ℕ) → n < 12 → IsSome (d.word kinds.Error n)
  pub special : IsSome (d.word kinds.Function d.let_fn) × IsSome (d.word kinds.Function d.lambda_fn)
  pub special_differ : d.let_fn ≢ d.lambda_fn
  -- a word is found as its number, and agreeing texts as the same
  pub finds_word : (kind : WordKind) (n : ℕ) (word : List ℕ) → d.word kind n ≡ Some word → d.find kind word ≡ Some n
  pub finds_agreeing : (kind : WordKind) (a b : List ℕ) → Agree a b → d.find kind a ≡ d.find kind b
  -- the shapes of words: a boolean word has the form of a variable
  pub boolean_shape : (n : ℕ) (word : List ℕ) → d.word kinds.Boolean n ≡ Some word → is_variable_form word ≡ true
  pub function_shape : (n : ℕ) (word : List ℕ) → d.word kinds.Function n ≡ Some word → has_function_shape word ≡ true
  pub error_shape : (text : List ℕ) (n : ℕ) → d.find kinds.Error text ≡ Some n → has_error_shape text ≡ true
  -- no error word begins another
  pub errors_apart : (text more : List ℕ) (m n : ℕ) → d.find kinds.Error text ≡ Some m → d.find kinds.Error (text ++ more) ≡ Some n → more ≡ []
  -- what is read as a reference stands at the front
  pub reference_front : (text rest : List ℕ) (r : RefToken) → d.read_ref text ≡ Some (r, rest) → (front : List ℕ) × (front ≢ []) × (text ≡ front ++ rest)
  -- the spelling of a reference, before an end, is read back and ends where it ends
  pub reads_spelled : (r : RefToken) (rest : List ℕ) → d.can_spell r ≡ true → IsEnd rest → d.read_ref (d.spell_ref r ++ rest) ≡ Some (r, rest)
  -- a reference begins with a letter, a digit, `_`, `$` or a quote
  pub reference_begins : (text : List ℕ) → first_is begins_reference text ≡ false → d.read_ref text ≡ None
  -- before an end, no reference is as long as an amount, a boolean word or a variable, nor longer
  pub shorter_than : (text rest after : List ℕ) (r : RefToken) → IsWordOrAmount d text → IsEnd rest → d.read_ref (text ++ rest) ≡ Some (r, after) → length rest < length after
  -- before an end, no reference is longer than a function word
  pub within_function : (n : ℕ) (word rest after : List ℕ) (r : RefToken) → d.word kinds.Function n ≡ Some word → IsEnd rest → d.read_ref (word ++ rest) ≡ Some (r, after) → length rest ≤ length after
  -- before an end, a reference is shorter than a word with its sheet in its canonical spelling, and a word with its sheet
  -- is shorter than the spelling of a reference
  pub within_local : (sheet word rest after : List ℕ) (r : RefToken) → is_sheet_name sheet ≡ true → is_identifier word ≡ true → IsEnd rest → d.read_ref (local_text sheet word ++ rest) ≡ Some (r, after) → length rest < length after
  pub local_within : (r : RefToken) (sheet word rest after : List ℕ) → d.can_spell r ≡ true → IsEnd rest → read_local (d.spell_ref r ++ rest) ≡ Some ((sheet, word), after) → length rest < length after

-- What is found at a byte of a text: the error whose word begins there, with its number of bytes. None only where no
-- error word begins there.
abbrev pub FindsErrorAt : DialectMeaning → List ℕ → ℕ → Option (Error × ℕ) → Type 0
FindsErrorAt d text at None =
    IsCharBoundary text at → (word rest : List ℕ) (e : Error) → chars (drop at text) ≡ word ++ rest → d.find kinds.Error word ≢ Some (error_number e)
FindsErrorAt d text at (Some found) =
    IsCharBoundary text at
    × ((word : List ℕ) × (rest : List ℕ) × (chars (drop at text) ≡ word ++ rest) × (d.find kinds.Error word ≡ Some (error_number found.0))
    × (found.1 ≡ length (encode_utf8_all word)))
