use Rattle.std.proofs.Common.{chars}
use Rattle.ic_refs.proofs.FormulaCellLemmas.{whole_cell}
use Rattle.ic_refs.proofs.formula.parse_reference_a1.Goals as goal

pub returns-clause-spelled : goal.returns-clause-spelled
returns-clause-spelled c = whole_cell (chars c.args.text.now) c.whole_cell.result c.whole_cell.ensures
