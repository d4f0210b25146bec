use Rattle.std.proofs.Common.{of_z, to_z, w32}
use Rattle.ic_sums.proofs.PutLemmas.{put_does}
use Rattle.ic_sums.proofs.evaluation.look_at.Goals as goal

pub returns-clause-only_values : goal.returns-clause-only_values
returns-clause-only_values c =
    let given = c.args in
    put_does given.at.0 (to_z w32 (of_z w32 given.at.1), to_z w32 (of_z w32 given.at.2)) c.in-Some.value given.model.now c.put_formula_value.new.self c.put_formula_value.result
    c.put_formula_value.ensures.does
