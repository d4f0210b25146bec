-- How the code falls a text into tokens: what is seen before it is copied, and the tokens before the first place where
-- none begins.
use Rattle.std.specs.Prelude.{◌≡◌, ℕ, zero, suc, ◌+◌, ◌<◌, ◌≤◌, ◌^◌, List, [], ◌∷◌, ◌++◌, length, not, Bool, true, false, Some, None, ◌==◌, ◌&&◌, chars, nat_le, Option, if◌then◌else◌}
use Rattle.ic_laws.specs.Amount.{unsigned_text}
use Rattle.ic_laws.specs.AmountFront.{number_in_one_pass, some_digits}
use Rattle.ic_laws.specs.Dialect.{DialectMeaning}
use Rattle.ic_laws.specs.Scan.{IsEnd, first_is, is_blank, is_word_character, past_run}
use Rattle.ic_laws.specs.Split.{longer}
use Rattle.ic_laws.specs.TokenKinds.{head_at, local_at, token_by_kinds, word_at}
use Rattle.ic_laws.specs.Character.{double_quote, open_bracket}
use Rattle.ic_laws.specs.declared.dialect.WordKind.TheVariants as kinds
use Rattle.ic_laws.specs.Token as tokens
use Rattle.ic_laws.specs.Token.{Token}
use Rattle.ic_tree.specs.declared.lexer.seen.Seen.{Seen}
use Rattle.ic_tree.specs.declared.lexer.seen.Seen.TheVariants as seen

-- the token that is seen
abbrev pub seen_token : Seen → Token
seen_token (seen.Num units) = tokens.Num units
seen_token (seen.Boolean value) = tokens.Boolean value
seen_token (seen.Word text) = tokens.Word (chars text.now)
seen_token (seen.FunHead number) = tokens.FunHead number
seen_token (seen.NameHead name) = tokens.NameHead (chars name.now)

-- a character that closes no text between quotes
abbrev pub is_inside : ℕ → Bool
is_inside c = not (c == double_quote)

-- at most nine digits after a separator at the front
abbrev pub fraction_run : ℕ → List ℕ → List ℕ
fraction_run separator [] = []
fraction_run separator (c ∷ cs) = if c == separator then some_digits 9 cs else []

-- a token with what stands after it
abbrev pub found : Token → List ℕ → Token × List ℕ
found token rest = (token, rest)

-- a head, a word or a number, the longest
abbrev pub named_at : DialectMeaning → List ℕ → Option (Token × List ℕ)
named_at d text = longer (head_at d text) (longer (word_at d text) (number_in_one_pass d text))

-- the function of this number has this word, and the word is found as it
abbrev pub IsSpelledFunction : DialectMeaning → ℕ → List ℕ → Type 0
IsSpelledFunction d number name = (d.find kinds.Function name ≡ Some number) × (d.word kinds.Function number ≡ Some name)

-- no word and no head at the front of a text is longer than what stands before this rest
abbrev pub is_past_word : List ℕ → List ℕ → Bool
is_past_word text rest =
    nat_le (length rest) (length (past_run is_word_character text)) && not (first_is (λ c. c == open_bracket) (past_run is_blank (past_run is_word_character text)))

-- the amount at the front of a text, in its canonical spelling and before an end: no reference is as long
pub record IsWholeNumber (d : DialectMeaning) (text : List ℕ) (token : Token) (rest : List ℕ) : Type 0 where
  pub units : ℕ
  pub whole : text ≡ unsigned_text d.decimal units ++ rest
  pub small : units < 10 ^ 27
  pub end : IsEnd rest
  pub reads : number_in_one_pass d text ≡ Some (token, rest)

-- no word with its sheet at the front of a text is longer than what stands before this rest
abbrev pub IsPastLocal : List ℕ → List ℕ → Type 0
IsPastLocal text rest = (f : Token × List ℕ) → local_at text ≡ Some f → length rest ≤ length f.1

-- The tokens of a text before its end, or before the first place where none begins; and whether that is the end, blanks
-- aside.
abbrev pub and_then : (List ℕ → List Token × Bool) → Option (Token × List ℕ) → List Token × Bool
and_then more None = ([], false)
and_then more (Some next) = (next.0 ∷ (more next.1).0, (more next.1).1)

abbrev pub lexed_from : (List ℕ → List Token × Bool) → DialectMeaning → List ℕ → List Token × Bool
lexed_from more d [] = ([], true)
lexed_from more d (c ∷ cs) = and_then more (token_by_kinds d (c ∷ cs))

unfoldable pub lexed_by : DialectMeaning → ℕ → List ℕ → List Token × Bool
lexed_by d zero text = ([], false)
lexed_by d (suc fuel) text = lexed_from (lexed_by d fuel) d (past_run is_blank text)

abbrev pub tokens_before : DialectMeaning → List ℕ → List Token
tokens_before d text = (lexed_by d (length text + 1) text).0

abbrev pub ends_whole : DialectMeaning → List ℕ → Bool
ends_whole d text = (lexed_by d (length text + 1) text).1
