use Rattle.std.proofs.Common.{arith}
use Rattle.std.proofs.lemmas.Grind.{common_steps}
use Rattle.std.specs.Str.{chars}
use Rattle.ic_tables.proofs.conditions.is_other_or_stored.Goals as goal

pub returns-then-not-is : goal.returns-then-not-is
unfolding chars
returns-then-not-is c = grind (arith, common_steps)

pub returns-else-not-is : goal.returns-else-not-is
unfolding chars
returns-else-not-is c = grind (arith, common_steps)
