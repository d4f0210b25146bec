-- The premise of the law is one of a dialect's own laws.
use Rattle.ic_laws.proofs.parsing.ReadAs.{read_as_complete, read_as_sound}
use Rattle.ic_laws.proofs.law.law_read_as.Goals as goal

pub returns : goal.returns
returns g c = λ d text t. (read_as_complete (g.D.Dialect.meaning d) (g.met.D.Dialect.laws d) text t, read_as_sound (g.D.Dialect.meaning d) (g.met.D.Dialect.laws d) text t)
