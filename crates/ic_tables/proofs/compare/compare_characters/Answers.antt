use Rattle.std.proofs.Common.{sym, ◌∙◌}
use Rattle.ic_tables.proofs.CompareLemmas.{decided}
use Rattle.ic_tables.proofs.compare.compare_characters.Goals as goal

pub returns-in-Err : goal.returns-in-Err
returns-in-Err c = sym (sym c.loop-c.invariant.2 ∙ decided _ _ _ _ _ c.in-Some.ensures.parts c.in-Err.ensures)
