use Rattle.std.proofs.Common.{sym}
use Rattle.ic_pool.proofs.LateLemmas.{look_up_late}
use Rattle.ic_pool.proofs.pool.Pool.make_whole.Goals as goal

pub invariant_of-self-then-len : goal.invariant_of-self-then-len
invariant_of-self-then-len g c = record {
  look_up = look_up_late c.put_late.new.index c.self.inside.knows_rest c.put_late.new.late c.deref.result.now c.self.inside.formulas.items c.put_late.ensures.knows c.put_late.ensures.hashed c.in_ok-put_late.ensures.done (sym c.deref.ensures.value);
  mentioned = c.self.invariant.mentioned;
  dangles = c.self.invariant.dangles;
  last_is_first = c.self.invariant.last_is_first;
}
