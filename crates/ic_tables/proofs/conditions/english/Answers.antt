use Rattle.std.specs.Str.{chars}
use Rattle.ic_tables.proofs.conditions.english.Goals as goal

pub returns : goal.returns
unfolding chars
returns c = c.find_id.ensures
