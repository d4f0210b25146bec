-- What a lexer still has: the token in sight, and the tokens after it.
use Rattle.std.specs.Prelude.{List, [], ◌∷◌, ℕ, Option, Some, None, Bool, true, false}
use Rattle.ic_laws.specs.Dialect.{DialectMeaning}
use Rattle.ic_laws.specs.Token.{Token}
use Rattle.ic_tree.specs.Lexing.{tokens_before}
use Rattle.ic_tree.specs.Tokens.{token_of}
use Rattle.ic_tree.specs.declared.token.Token as code

abbrev pub in_sight : DialectMeaning → Option code.Token → List ℕ → List Token
in_sight d None rest = []
in_sight d (Some token) rest = token_of token ∷ tokens_before d rest

-- where no token is in sight none comes
abbrev pub is_settled : Option code.Token → List Token → Bool
is_settled None [] = true
is_settled None (t ∷ ts) = false
is_settled (Some token) ts = true
