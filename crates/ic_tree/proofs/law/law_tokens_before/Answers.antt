use Rattle.ic_tree.proofs.LexLemmas.{tokens_whole}
use Rattle.ic_tree.proofs.law.law_tokens_before.Goals as goal

pub returns : goal.returns
returns g c = λ d text. tokens_whole (g.D.Dialect.meaning d) (g.met.D.Dialect.laws d) text
