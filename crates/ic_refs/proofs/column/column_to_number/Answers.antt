use Rattle.std.proofs.Common.{chars}
use Rattle.ic_refs.proofs.ColumnNamedLemmas.{column_spelled}
use Rattle.ic_refs.proofs.column.column_to_number.Goals as goal

pub returns-clause-named : goal.returns-clause-named
returns-clause-named c = column_spelled (chars c.args.column.now) c.number_of_letters.result c.number_of_letters.ensures
