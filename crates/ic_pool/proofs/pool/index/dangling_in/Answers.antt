use Rattle.std.proofs.Common.{◌+◌, ◌∙◌, ap₂, arith, sym}
use Rattle.ic_pool.proofs.IndexLemmas.{dangling_count-take}
use Rattle.ic_pool.proofs.pool.index.dangling_in.Goals as goal

pub loop-formula-preserved : goal.loop-formula-preserved
loop-formula-preserved c = record {
  counted = ap₂ (λ a b. a + b) c.loop-formula.invariant.counted c.dangling_weight-count.ensures.value
      ∙ sym (dangling_count-take c.args.formulas.now c.loop-formula.formula-index c.formula-item.result c.loop-formula-test.true c.formula-item.is);
  few = omega (arith, c.loop-formula.invariant.few, c.dangling_weight-count.ensures.small);
}
