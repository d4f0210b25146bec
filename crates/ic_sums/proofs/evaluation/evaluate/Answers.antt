use Rattle.ic_parts.specs.Whole.{whole_of}
use Rattle.ic_sums.proofs.EvaluatedLemmas.{only_both}
use Rattle.ic_sums.proofs.PutLemmas.{core_stays}
use Rattle.ic_sums.proofs.evaluation.evaluate.Goals as goal

pub returns-in_err-look_at-clause-core : goal.returns-in_err-look_at-clause-core
returns-in_err-look_at-clause-core c =
    let before = c.args.model.now.book in
    let after = c.look_at.new.model.book in
    core_stays before after (only_both (whole_of before) (whole_of c.loop.model.book) (whole_of after) c.loop.invariant.only_values c.look_at.ensures.only_values)

pub returns-clause-core : goal.returns-clause-core
returns-clause-core c = core_stays c.args.model.now.book c.loop.model.book c.loop.invariant.only_values
