use Rattle.std.proofs.Common.{arith}
use Rattle.std.proofs.lemmas.Grind.{common_steps}
use Rattle.std.specs.Str.{chars}
use Rattle.ic_tables.proofs.words.has_stored_booleans.Goals as goal

pub returns-then-is : goal.returns-then-is
unfolding chars
returns-then-is c = grind (arith, common_steps)

pub returns-else-is : goal.returns-else-is
unfolding chars
returns-else-is c = grind (arith, common_steps)
