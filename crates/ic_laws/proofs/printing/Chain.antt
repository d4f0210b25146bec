-- A chain of tokens in their canonical spelling falls into just these tokens.
use Rattle.std.proofs.Common.{◌≡◌, ℕ, List, [], ◌∷◌, ◌++◌, Some, refl}
use Rattle.ic_laws.specs.Dialect.{DialectMeaning, IsLawful}
use Rattle.ic_laws.specs.Token.{Token, token_text, Lexes}
use Rattle.ic_laws.specs.NextToken.{token_at}
use Rattle.ic_laws.specs.Following.{CanSpell, MayFollow, IsChain, spelled_out}
use Rattle.ic_laws.proofs.tokens.Next.{token_at_sound}

-- each token is read back before what may follow it
abbrev pub TokensReadBack : DialectMeaning → Type 0
TokensReadBack d = (t : Token) (rest : List ℕ) → CanSpell d t → MayFollow d t rest → token_at d (token_text d t ++ rest) ≡ Some (t, rest)

pub chain_lexes : (d : DialectMeaning) → IsLawful d → TokensReadBack d → (ts : List Token) → IsChain d ts → Lexes d (spelled_out d ts) ts
chain_lexes d n back [] h = refl
chain_lexes d n back (t ∷ ts) h =
    ([], spelled_out d (t ∷ ts), spelled_out d ts, refl, refl, token_at_sound d n (spelled_out d (t ∷ ts)) (spelled_out d ts) t (back t (spelled_out d ts) h.0 h.1), chain_lexes d n back ts h.2)
