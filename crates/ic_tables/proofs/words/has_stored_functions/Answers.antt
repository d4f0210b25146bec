use Rattle.std.proofs.Common.{arith}
use Rattle.std.proofs.lemmas.Grind.{common_steps}
use Rattle.std.specs.Str.{chars}
use Rattle.ic_tables.proofs.words.has_stored_functions.Goals as goal

pub returns-then-is_word_of : goal.returns-then-is_word_of
unfolding chars
returns-then-is_word_of c = grind (arith, common_steps)

pub returns-else-is_word_of : goal.returns-else-is_word_of
unfolding chars
returns-else-is_word_of c = grind (arith, common_steps)
