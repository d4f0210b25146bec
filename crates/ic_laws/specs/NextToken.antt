-- The token that a front of a text spells before what stands after it, the next token of a text, and all its tokens, as
-- functions.
use Rattle.std.specs.Prelude.{ℕ, zero, suc, ◌+◌, pos, List, [], ◌∷◌, ◌++◌, Bool, true, false, not, ◌&&◌, ◌||◌, ◌==◌, length, Option, Some, None, option_map, option_and_then, codes, bytes_eq, if◌then◌else◌}
use Rattle.std.specs.List.{list_all}
use Rattle.ic_laws.specs.Amount.{unsigned_amount}
use Rattle.ic_laws.specs.Character.{double_quote, hash, semicolon}
use Rattle.ic_laws.specs.Dialect.{DialectMeaning, boolean_number, error_number}
use Rattle.ic_laws.specs.Name.{is_variable}
use Rattle.ic_laws.specs.Scan.{begins_word, first_is, is_blank, is_digit, is_word_character, run_of, past_run}
use Rattle.ic_laws.specs.SheetText.{read_local}
use Rattle.ic_laws.specs.Split.{longest_split, or_else}
use Rattle.ic_laws.specs.Token.{Token, Num, Str, Boolean, Err, Ref, Local, Word, FunHead, NameHead, Separator, Operator, At, Percent, Hash, Open, Close, OpenBrace, CloseBrace, Semicolon, is_double_quote}
use Rattle.ic_laws.specs.declared.dialect.WordKind.TheVariants as kinds
use Rattle.ic_laws.specs.declared.tree.BinarySign.TheVariants as signs
use Rattle.ic_laws.specs.declared.tree.Error.{Error}
use Rattle.ic_laws.specs.declared.tree.Error.TheVariants as errors

-- the signs, by their texts; the row sign `;` is one only where `;` doesn't separate arguments
abbrev pub separators : ℕ → List (List ℕ × Token)
separators list = if list == semicolon then (codes ";", Separator) ∷ [] else (list ∷ [], Separator) ∷ (codes ";", Semicolon) ∷ []

-- the signs, each with its token
abbrev pub sign_table : ℕ → List (List ℕ × Token)
sign_table list =
    (codes "=", Operator signs.Equal) ∷ (codes "<>", Operator signs.Unequal) ∷ (codes "<", Operator signs.Less) ∷ (codes ">", Operator signs.Greater)
    ∷ (codes "<=", Operator signs.AtMost) ∷ (codes ">=", Operator signs.AtLeast) ∷ (codes "&", Operator signs.Join) ∷ (codes "+", Operator signs.Plus)
    ∷ (codes "-", Operator signs.Minus) ∷ (codes "*", Operator signs.Times) ∷ (codes "/", Operator signs.Over) ∷ (codes "^", Operator signs.Power)
    ∷ (codes "@", At) ∷ (codes "%", Percent) ∷ (codes "#", Hash) ∷ (codes "(", Open) ∷ (codes ")", Close) ∷ (codes "{", OpenBrace)
    ∷ (codes "}", CloseBrace) ∷ separators list

-- what a table of texts has for one of them, the first of equal ones
abbrev pub look_up : {T : Type 0} → List (List ℕ × T) → List ℕ → Option T
look_up [] text = None
look_up (e ∷ es) text = if bytes_eq e.0 text then Some e.1 else look_up es text

-- a character before what is there, if anything is
abbrev pub push : ℕ → Option (List ℕ) → Option (List ℕ)
push c o = option_map (λ text. c ∷ text) o

-- the text that stands between a quote before this and the one at the end, each quote in it doubled; pending where one
-- quote was passed that is doubled or the last
abbrev pub unquoted : Bool → List ℕ → Option (List ℕ)
unquoted true [] = Some []
unquoted false [] = None
unquoted true (c ∷ cs) = if c == double_quote then push double_quote (unquoted false cs) else None
unquoted false (c ∷ cs) = if c == double_quote then unquoted true cs else push c (unquoted false cs)

-- the errors by their numbers
abbrev pub all_errors : List Error
all_errors =
    errors.REF ∷ errors.NAME ∷ errors.VALUE ∷ errors.DIV ∷ errors.NA ∷ errors.NUM ∷ errors.NIMPL ∷ errors.SPILL ∷ errors.CALC ∷ errors.CIRC ∷ errors.ERROR
    ∷ errors.NULL ∷ []

-- the first of them that has this number
abbrev pub numbered : {T : Type 0} → (T → ℕ) → List T → ℕ → Option T
numbered number [] n = None
numbered number (x ∷ xs) n = if number x == n then Some x else numbered number xs n

-- a whole run is the boolean of a number, or a word where it may be one
abbrev pub boolean_or_word : DialectMeaning → List ℕ → Option ℕ → Option Token
boolean_or_word d run (Some n) = option_map Boolean (numbered boolean_number (false ∷ true ∷ []) n)
boolean_or_word d run None = if is_variable run then Some (Word run) else None

-- a name that is called is the function of a number, or a name where it may be one
abbrev pub head_token : List ℕ → Option ℕ → Option Token
head_token name (Some n) = Some (FunHead n)
head_token name None = if is_variable name then Some (NameHead name) else None

-- what begins as a word does: a whole run of word characters, or a run with an open bracket after it, blanks aside
abbrev pub word_of : DialectMeaning → List ℕ → List ℕ → Option Token
word_of d front rest =
    if list_all is_word_character front then
    if first_is is_word_character rest then None else boolean_or_word d front (d.find kinds.Boolean front)
    else if bytes_eq (past_run is_blank (past_run is_word_character front)) (codes "(") then
    head_token (run_of is_word_character front) (d.find kinds.Function (run_of is_word_character front))
    else None

-- the token that front spells before rest, references and words with their sheets aside
unfoldable pub bare_of : DialectMeaning → List ℕ → List ℕ → Option Token
bare_of d [] rest = None
bare_of d (c ∷ cs) rest =
    if begins_word c then word_of d (c ∷ cs) rest
    else if is_digit c || c == d.decimal then option_map (λ units. Num (pos units)) (unsigned_amount d.decimal (c ∷ cs))
    else if c == double_quote then (if first_is is_double_quote rest then None else option_map Str (unquoted false cs))
    else if c == hash && not (bytes_eq cs []) then option_and_then (λ n. option_map Err (numbered error_number all_errors n)) (d.find kinds.Error (c ∷ cs))
    else look_up (sign_table d.list) (c ∷ cs)

-- the word with its sheet that front spells before rest
abbrev pub local_of : List ℕ → List ℕ → Option Token
local_of front rest = option_and_then (λ found. if bytes_eq found.1 rest then Some (Local found.0.0 found.0.1) else None) (read_local (front ++ rest))

-- the token that front spells before rest, references aside
abbrev pub plain_of : DialectMeaning → List ℕ → List ℕ → Option Token
plain_of d front rest = or_else (bare_of d front rest) (local_of front rest)

-- the reference that front spells before rest
abbrev pub reference_of : DialectMeaning → List ℕ → List ℕ → Option Token
reference_of d front rest = option_and_then (λ found. if bytes_eq found.1 rest then Some (Ref found.0) else None) (d.read_ref (front ++ rest))

-- a reference comes first
abbrev pub token_of : DialectMeaning → List ℕ → List ℕ → Option Token
token_of d front rest = or_else (reference_of d front rest) (plain_of d front rest)

-- the next token of a text, and what stands after it
abbrev pub token_at : DialectMeaning → List ℕ → Option (Token × List ℕ)
token_at d text = longest_split (token_of d) [] text

-- the tokens of a text: the next one, then those of what stands after it
abbrev pub after_token : (List ℕ → Option (List Token)) → Option (Token × List ℕ) → Option (List Token)
after_token more None = None
after_token more (Some found) = option_map (λ ts. found.0 ∷ ts) (more found.1)

-- nothing has no tokens; else the next token comes first
abbrev pub next_tokens : (List ℕ → Option (List Token)) → DialectMeaning → List ℕ → Option (List Token)
next_tokens more d [] = Some []
next_tokens more d (c ∷ cs) = after_token more (token_at d (c ∷ cs))

-- blanks are skipped before each token; a text has no more tokens than fuel
unfoldable pub tokens_by : DialectMeaning → ℕ → List ℕ → Option (List Token)
tokens_by d zero text = None
tokens_by d (suc fuel) text = next_tokens (tokens_by d fuel) d (past_run is_blank text)

-- all tokens of a text, if it falls into tokens
abbrev pub tokens_of : DialectMeaning → List ℕ → Option (List Token)
tokens_of d text = tokens_by d (length text + 1) text
