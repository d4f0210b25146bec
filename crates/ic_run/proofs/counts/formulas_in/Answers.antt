use Rattle.std.proofs.Common.{◌∙◌}
use Rattle.ic_run.proofs.CountLemmas.{values_counted}
use Rattle.ic_run.proofs.counts.formulas_in.Goals as goal

pub returns : goal.returns
returns c = c.count_formulas.ensures.count ∙ values_counted c.as_map.result.now c.args.cells.now c.count_formulas.ensures.ordered c.as_map.ensures
