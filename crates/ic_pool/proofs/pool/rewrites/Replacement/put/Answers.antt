use Rattle.std.proofs.Common.{◌≤◌, ◌+◌, ◌-◌, length, refl, rules}
use Rattle.ic_pool.proofs.IndexLemmas.{put_counts, put_few, put_takes}
use Rattle.ic_pool.proofs.pool.rewrites.Replacement.put.Goals as goal

pub overflow_sub-others : goal.overflow_sub-others
overflow_sub-others c =
    put_takes c.args.formulas.now c.args.self.at c.index-formulas-at.result c.args.self.formula c.args.dangling c.dangling_weight.result _ c.requires.within c.index-formulas-at.is c.requires.counted c.dangling_weight.ensures.value refl

pub overflow_add-result : goal.overflow_add-result
overflow_add-result c =
    let few : c.args.dangling - c.dangling_weight.result + c.dangling_weight-weight.result ≤ length c.args.formulas.now =
    put_few c.args.formulas.now c.args.self.at c.index-formulas-at.result c.args.self.formula c.args.dangling c.dangling_weight.result c.dangling_weight-weight.result c.requires.within c.index-formulas-at.is c.requires.counted c.dangling_weight.ensures.value
    c.dangling_weight-weight.ensures.value in
    search rules

pub returns-clause-counted : goal.returns-clause-counted
returns-clause-counted c =
    put_counts c.args.formulas.now c.args.self.at c.index-formulas-at.result c.args.self.formula c.args.dangling c.dangling_weight.result c.dangling_weight-weight.result c.requires.within c.index-formulas-at.is c.requires.counted c.dangling_weight.ensures.value
    c.dangling_weight-weight.ensures.value
