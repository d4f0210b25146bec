use Rattle.std.proofs.Common.{sym, true}
use Rattle.ic_pool.proofs.LateLemmas.{look_up_anew}
use Rattle.ic_pool.proofs.pool.Pool.make_anew.Goals as goal

pub invariant_of-self : goal.invariant_of-self
invariant_of-self g c = record {
  look_up = look_up_anew c.in_ok-self-inside.field-0 true c.clear.new.self c.deref.result.now c.self.inside.formulas.items c.in_ok-self-inside.ensures.ok c.in_ok-self-inside.ensures.hashed (sym c.deref.ensures.value);
  mentioned = c.self.invariant.mentioned;
  dangles = c.self.invariant.dangles;
  last_is_first = c.self.invariant.last_is_first;
}
