use Rattle.std.proofs.Common.{refl}
use Rattle.ic_pool.proofs.LateLemmas.{all_out, one_out}
use Rattle.ic_pool.proofs.pool.rewrites.remove_keys.Goals as goal

pub loop-old-init : goal.loop-old-init
loop-old-init c = record { by_hash = λ hash. refl; by_key = λ key. refl }

pub loop-old-preserved : goal.loop-old-preserved
loop-old-preserved c =
    one_out c.args.index.now c.loop-old.index c.take_out.new.self c.args.olds.now c.loop-old.old-index c.old-item.result c.loop-old-test.true c.old-item.is c.loop-old.invariant c.take_out.ensures

pub returns : goal.returns
returns c = all_out c.args.index.now c.loop-old.index c.args.olds.now c.loop-old.old-index c.loop-old-test.false c.loop-old.invariant
