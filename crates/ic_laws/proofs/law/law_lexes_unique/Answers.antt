-- The premise of the law is one of a dialect's own laws.
use Rattle.ic_laws.proofs.tokens.Lexing.{lexes_unique}
use Rattle.ic_laws.proofs.law.law_lexes_unique.Goals as goal

pub returns : goal.returns
returns g c = λ d text ts us a b. lexes_unique (g.D.Dialect.meaning d) (g.met.D.Dialect.laws d) text ts us a b
