-- The premise of the law is one of a dialect's own laws.
use Rattle.ic_laws.proofs.printing.Trees.{printed_lexes, printed_tokens}
use Rattle.ic_laws.proofs.law.law_lex_print.Goals as goal

pub returns : goal.returns
returns g c = λ d t fits. (printed_lexes (g.D.Dialect.meaning d) (g.met.D.Dialect.laws d) t fits, printed_tokens (g.D.Dialect.meaning d) (g.met.D.Dialect.laws d) t fits)
