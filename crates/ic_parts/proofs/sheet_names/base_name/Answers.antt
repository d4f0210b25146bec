use Rattle.std.proofs.Common.{rules}
use Rattle.std.specs.Str.{chars}
use Rattle.ic_parts.proofs.sheet_names.base_name.Goals as goal

pub returns-then-is : goal.returns-then-is
unfolding chars
returns-then-is c = search rules

pub returns-then-is-2 : goal.returns-then-is-2
unfolding chars
returns-then-is-2 c = search rules

pub returns-then-is-3 : goal.returns-then-is-3
unfolding chars
returns-then-is-3 c = search rules

pub returns-then-is-4 : goal.returns-then-is-4
unfolding chars
returns-then-is-4 c = search rules

pub returns-else-is-4 : goal.returns-else-is-4
unfolding chars
returns-else-is-4 c = search rules
