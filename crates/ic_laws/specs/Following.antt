-- Tokens in their canonical spelling, one after the other: which can be spelled, and what may follow each.
use Rattle.std.specs.Prelude.{◌≡◌, ◌≢◌, ℕ, pos, negsuc, ◌<◌, ◌^◌, List, [], ◌∷◌, true, false, not, ◌||◌, ◌==◌, None, IsSome, flat_map}
use Rattle.ic_laws.specs.Name.{is_identifier, is_sheet_name, is_variable}
use Rattle.ic_laws.specs.Scan.{IsEnd, first_is, is_blank, past_run}
use Rattle.ic_laws.specs.Character.{equals, greater, open_bracket, semicolon}
use Rattle.ic_laws.specs.Dialect.{DialectMeaning, is_sign}
use Rattle.ic_laws.specs.Token.{Token, Num, Str, Boolean, Ref, Local, Word, FunHead, NameHead, Operator, Hash, Semicolon, is_double_quote, token_text}
use Rattle.ic_laws.specs.declared.dialect.WordKind.TheVariants as kinds
use Rattle.ic_laws.specs.declared.tree.BinarySign.TheVariants as signs

-- the dialect can spell the token so that it reads back
abbrev pub CanSpell : DialectMeaning → Token → Type 0
CanSpell d (Num (pos units)) = units < 10 ^ 27
CanSpell d (Num (negsuc units)) = ⊥
CanSpell d (Ref reference) = d.can_spell reference ≡ true
CanSpell d (Local sheet word) = (is_sheet_name sheet ≡ true) × (is_identifier word ≡ true)
CanSpell d (Word text) = (is_variable text ≡ true) × (d.find kinds.Boolean text ≡ None)
CanSpell d (FunHead number) = IsSome (d.word kinds.Function number)
CanSpell d (NameHead name) = (is_variable name ≡ true) × (d.find kinds.Function name ≡ None)
CanSpell d Semicolon = d.list ≢ semicolon
CanSpell d token = Unit {0}

-- no open bracket, blanks aside
abbrev pub IsNotCalled : List ℕ → Type 0
IsNotCalled rest = first_is (λ c. c == open_bracket) (past_run is_blank rest) ≡ false

-- no decimal separator
abbrev pub NoDecimal : DialectMeaning → List ℕ → Type 0
NoDecimal d rest = first_is (λ c. c == d.decimal) rest ≡ false

-- what may stand after the canonical text of a token
abbrev pub MayFollow : DialectMeaning → Token → List ℕ → Type 0
MayFollow d (Num units) rest = IsEnd rest × NoDecimal d rest
MayFollow d (Str text) rest = first_is is_double_quote rest ≡ false
MayFollow d (Boolean value) rest = IsEnd rest × IsNotCalled rest
MayFollow d (Ref reference) rest = IsEnd rest × NoDecimal d rest × IsNotCalled rest
MayFollow d (Local sheet word) rest = IsEnd rest × NoDecimal d rest × IsNotCalled rest
MayFollow d (Word text) rest = IsEnd rest × IsNotCalled rest
MayFollow d Hash rest = first_is (λ c. not (is_sign c || is_blank c)) rest ≡ false
MayFollow d (Operator signs.Less) rest = first_is (λ c. c == equals || c == greater) rest ≡ false
MayFollow d (Operator signs.Greater) rest = first_is (λ c. c == equals) rest ≡ false
MayFollow d token rest = Unit {0}

-- the text of tokens without blanks
abbrev pub spelled_out : DialectMeaning → List Token → List ℕ
spelled_out d tokens = flat_map (token_text d) tokens

-- each token can be spelled, and may stand before the text of the others
abbrev pub IsChain : DialectMeaning → List Token → Type 0
IsChain d [] = Unit {0}
IsChain d (token ∷ tokens) = CanSpell d token × MayFollow d token (spelled_out d tokens) × IsChain d tokens
