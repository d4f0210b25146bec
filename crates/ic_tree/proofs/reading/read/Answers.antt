use Rattle.std.proofs.Common.{chars}
use Rattle.std.proofs.lemmas.Result.{IfOk-weaker}
use Rattle.ic_tree.proofs.ReadLemmas.{none_reads, reads_when_some}
use Rattle.ic_tree.proofs.reading.read.Goals as goal

pub returns-clause-reads : goal.returns-clause-reads
returns-clause-reads g c =
    IfOk-weaker c.read_spelled.result _ _ (λ r h. reads_when_some (g.D.Dialect.meaning c.args.d.now) (g.met.D.Dialect.laws c.args.d.now) (chars c.args.text.now) r h) c.read_spelled.ensures

pub returns-clause-none : goal.returns-clause-none
returns-clause-none g c =
    IfOk-weaker c.read_spelled.result _ _ (λ r h. none_reads (g.D.Dialect.meaning c.args.d.now) (g.met.D.Dialect.laws c.args.d.now) (chars c.args.text.now) r h) c.read_spelled.ensures
