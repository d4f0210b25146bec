-- One reader for each kind of token at the front of a text, and the longest of what they answer.
use Rattle.std.specs.Prelude.{◌≡◌, ℕ, pos, List, [], ◌∷◌, Bool, true, false, ◌==◌, Option, Some, None, option_map, option_and_then, codes, if◌then◌else◌}
use Rattle.ic_laws.specs.Amount.{unsigned_amount}
use Rattle.ic_laws.specs.Character.{double_quote, open_bracket}
use Rattle.ic_laws.specs.Scan.{begins_word, first_is, is_blank, is_word_character, run_of, past_run}
use Rattle.ic_laws.specs.Dialect.{DialectMeaning, error_number}
use Rattle.ic_laws.specs.Token.{Token, Num, Str, Boolean, Err, Ref, Local, Word, FunHead, NameHead, Separator, Operator, At, Percent, Hash, Open, Close, OpenBrace, CloseBrace, Semicolon, Spells}
use Rattle.ic_laws.specs.declared.dialect.WordKind.TheVariants as kinds
use Rattle.ic_laws.specs.declared.tree.BinarySign.TheVariants as signs
use Rattle.ic_laws.specs.NextToken.{all_errors, boolean_or_word, head_token, look_up, numbered, separators}
use Rattle.ic_laws.specs.AmountFront.{number_in_one_pass}
use Rattle.ic_laws.specs.SheetText.{read_local}
use Rattle.ic_laws.specs.Split.{longer, longest_split}

-- the kinds of tokens: a reference
abbrev pub is_reference : Token → Bool
is_reference (Ref r) = true
is_reference t = false

-- a word with its sheet
abbrev pub is_local : Token → Bool
is_local (Local sheet word) = true
is_local t = false

-- a head
abbrev pub is_head : Token → Bool
is_head (FunHead n) = true
is_head (NameHead name) = true
is_head t = false

-- a boolean or a word
abbrev pub is_word : Token → Bool
is_word (Boolean value) = true
is_word (Word text) = true
is_word t = false

-- a number
abbrev pub is_number : Token → Bool
is_number (Num units) = true
is_number t = false

-- a text
abbrev pub is_text : Token → Bool
is_text (Str text) = true
is_text t = false

-- an error
abbrev pub is_error : Token → Bool
is_error (Err e) = true
is_error t = false

-- signs of two characters, and of one
abbrev pub is_sign_of_two : Token → Bool
is_sign_of_two (Operator signs.Unequal) = true
is_sign_of_two (Operator signs.AtMost) = true
is_sign_of_two (Operator signs.AtLeast) = true
is_sign_of_two t = false

abbrev pub is_sign_of_one : Token → Bool
is_sign_of_one (Operator signs.Unequal) = false
is_sign_of_one (Operator signs.AtMost) = false
is_sign_of_one (Operator signs.AtLeast) = false
is_sign_of_one (Operator sign) = true
is_sign_of_one Separator = true
is_sign_of_one At = true
is_sign_of_one Percent = true
is_sign_of_one Hash = true
is_sign_of_one Open = true
is_sign_of_one Close = true
is_sign_of_one OpenBrace = true
is_sign_of_one CloseBrace = true
is_sign_of_one Semicolon = true
is_sign_of_one t = false

-- what spells a token of the kind
abbrev pub OfKind : (Token → Bool) → DialectMeaning → Token → List ℕ → List ℕ → Type 0
OfKind kind d token front rest = (kind token ≡ true) × Spells d token front rest

-- the reference at the front
abbrev pub reference_at : DialectMeaning → List ℕ → Option (Token × List ℕ)
reference_at d text = option_map (λ f. (Ref f.0, f.1)) (d.read_ref text)

-- the word with its sheet at the front
abbrev pub local_at : List ℕ → Option (Token × List ℕ)
local_at text = option_map (λ f. (Local f.0.0 f.0.1, f.1)) (read_local text)

-- after a quote: the text up to one that no other follows, and the rest; pending where one quote was passed
abbrev pub onto : ℕ → Option (List ℕ × List ℕ) → Option (List ℕ × List ℕ)
onto c o = option_map (λ f. (c ∷ f.0, f.1)) o

abbrev pub closed : Bool → List ℕ → Option (List ℕ × List ℕ)
closed true [] = Some ([], [])
closed false [] = None
closed true (c ∷ cs) = if c == double_quote then onto double_quote (closed false cs) else Some ([], c ∷ cs)
closed false (c ∷ cs) = if c == double_quote then closed true cs else onto c (closed false cs)

-- the text at the front
abbrev pub text_at : List ℕ → Option (Token × List ℕ)
text_at [] = None
text_at (c ∷ cs) = if c == double_quote then option_map (λ f. (Str f.0, f.1)) (closed false cs) else None

-- the boolean or the word at the front
abbrev pub word_at : DialectMeaning → List ℕ → Option (Token × List ℕ)
word_at d text =
    if first_is begins_word text then
    option_map (λ t. (t, past_run is_word_character text)) (boolean_or_word d (run_of is_word_character text) (d.find kinds.Boolean (run_of is_word_character text)))
    else None

-- a name with an open bracket at the front of what stands after it
abbrev pub head_before : DialectMeaning → List ℕ → List ℕ → Option (Token × List ℕ)
head_before d name [] = None
head_before d name (c ∷ rest) = if c == open_bracket then option_map (λ t. (t, rest)) (head_token name (d.find kinds.Function name)) else None

-- the head at the front
abbrev pub head_at : DialectMeaning → List ℕ → Option (Token × List ℕ)
head_at d text =
    if first_is begins_word text then head_before d (run_of is_word_character text) (past_run is_blank (past_run is_word_character text)) else None

-- the number that a front is
abbrev pub number_of : DialectMeaning → List ℕ → List ℕ → Option Token
number_of d front rest = option_map (λ units. Num (pos units)) (unsigned_amount d.decimal front)

-- the longest number at the front
abbrev pub number_at : DialectMeaning → List ℕ → Option (Token × List ℕ)
number_at d text = longest_split (number_of d) [] text

-- the error that a front is
abbrev pub error_of : DialectMeaning → List ℕ → List ℕ → Option Token
error_of d front rest = option_and_then (λ n. option_map Err (numbered error_number all_errors n)) (d.find kinds.Error front)

-- the longest error at the front
abbrev pub error_at : DialectMeaning → List ℕ → Option (Token × List ℕ)
error_at d text = longest_split (error_of d) [] text

-- the signs of two characters
abbrev pub two_table : List (List ℕ × Token)
two_table = (codes "<>", Operator signs.Unequal) ∷ (codes "<=", Operator signs.AtMost) ∷ (codes ">=", Operator signs.AtLeast) ∷ []

-- the signs of one character
abbrev pub one_table : ℕ → List (List ℕ × Token)
one_table list =
    (codes "=", Operator signs.Equal) ∷ (codes "<", Operator signs.Less) ∷ (codes ">", Operator signs.Greater) ∷ (codes "&", Operator signs.Join)
    ∷ (codes "+", Operator signs.Plus) ∷ (codes "-", Operator signs.Minus) ∷ (codes "*", Operator signs.Times) ∷ (codes "/", Operator signs.Over)
    ∷ (codes "^", Operator signs.Power) ∷ (codes "@", At) ∷ (codes "%", Percent) ∷ (codes "#", Hash) ∷ (codes "(", Open) ∷ (codes ")", Close)
    ∷ (codes "{", OpenBrace) ∷ (codes "}", CloseBrace) ∷ separators list

-- the sign of two characters at the front
abbrev pub two_at : List ℕ → Option (Token × List ℕ)
two_at (c ∷ e ∷ cs) = option_map (λ t. (t, cs)) (look_up two_table (c ∷ e ∷ []))
two_at text = None

-- the sign of one character at the front
abbrev pub one_at : DialectMeaning → List ℕ → Option (Token × List ℕ)
one_at d [] = None
one_at d (c ∷ cs) = option_map (λ t. (t, cs)) (look_up (one_table d.list) (c ∷ []))

-- the longest token at the front, a reference first of two of one length
abbrev pub token_by_kinds : DialectMeaning → List ℕ → Option (Token × List ℕ)
token_by_kinds d text =
    longer (reference_at d text) (longer (local_at text) (longer (head_at d text) (longer (word_at d text) (longer (number_in_one_pass d text) (longer (text_at text) (longer (error_at d text) (longer (two_at text) (one_at d text))))))))
