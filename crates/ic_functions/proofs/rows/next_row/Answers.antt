use Rattle.std.proofs.Common.{chars}
use Rattle.ic_laws.proofs.RunLemmas.{ends_with_rest}
use Rattle.ic_functions.specs.Rows.{is_in_row}
use Rattle.ic_functions.proofs.rows.next_row.Goals as goal

pub front_of-requires : goal.front_of-requires
front_of-requires c = ends_with_rest is_in_row (chars c.args.text.now) (chars c.past_row-rest.result.now) c.past_row-rest.ensures.rest
