use Rattle.ic_tables.proofs.CompareLemmas.{compares_after}
use Rattle.ic_tables.proofs.compare.past_chars.Goals as goal

pub returns-in-Err : goal.returns-in-Err
returns-in-Err c = compares_after _ _ _ c.loop-c.c-index c.c-item.result _ c.loop-c-test.true c.loop-c.invariant.1 c.c-item.is c.in-Err.ensures
