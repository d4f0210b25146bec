use Rattle.std.proofs.Common.{arith}
use Rattle.std.proofs.lemmas.Grind.{common_steps}
use Rattle.std.specs.Str.{chars}
use Rattle.ic_tables.proofs.ids.has_good_ids.Goals as goal
use Rattle.ic_tables.proofs.ids.has_good_ids.Goals.{then-has_id, else-has_id}

pub returns-then-have_different_ids : goal.returns-then-have_different_ids
unfolding chars
returns-then-have_different_ids g c = elim c.if-has_id.branch [ then-has_id w ↦ grind (arith, common_steps) | else-has_id w ↦ grind (arith, common_steps) ]

pub returns-else-have_different_ids : goal.returns-else-have_different_ids
unfolding chars
returns-else-have_different_ids g c = elim c.if-has_id.branch [ then-has_id w ↦ grind (arith, common_steps) | else-has_id w ↦ grind (arith, common_steps) ]
