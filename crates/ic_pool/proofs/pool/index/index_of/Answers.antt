use Rattle.std.proofs.Common.{◌≡◌, ◌<◌, ◌+◌, ◌-◌, length, arith}
use Rattle.ic_pool.proofs.IndexLemmas.{empty_from, put_from}
use Rattle.ic_pool.proofs.pool.index.index_of.Goals as goal

pub loop-at-init : goal.loop-at-init
loop-at-init g c =
    let made = empty_from c.new-index.result c.args.formulas.now (length c.args.formulas.now) c.new-index.ensures (omega arith) in
    record {
      within = omega arith;
      counted = omega arith;
      found = made.0;
      hashed = made.1;
    }

pub loop-at-preserved : goal.loop-at-preserved
loop-at-preserved g c =
    let next : c.loop-at.at - 1 + 1 ≡ c.loop-at.at = omega arith in
    let within : c.loop-at.at - 1 < length c.args.formulas.now = omega arith in
    let put = put_from c.loop-at.index c.put.new.self (c.loop-at.at - 1) c.loop-at.at c.args.formulas.now c.index-formulas-at.result c.in_ok-key.key c.loop-at.invariant.found c.loop-at.invariant.hashed next within c.index-formulas-at.is c.in_ok-key.ensures c.in_ok-put.ensures.ok in
    record {
      within = omega arith;
      counted = omega arith;
      found = put.0;
      hashed = put.1;
    }
