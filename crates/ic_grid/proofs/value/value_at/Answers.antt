use Rattle.std.proofs.Common.{sym}
use Rattle.ic_grid.proofs.ValueLemmas.{there_still, valued_there}
use Rattle.ic_grid.proofs.value.value_at.Goals as goal

pub value_array-requires-clause-formula : goal.value_array-requires-clause-formula
value_array-requires-clause-formula c = there_still c.args.cells.now c.args.place c.in-Some-formula_array.f c.in-Some-formula_array.s c.in-Some-formula_array.array (sym c.in-Some-formula_array.ensures)

pub returns-in-Some-formula_array-clause-ok : goal.returns-in-Some-formula_array-clause-ok
returns-in-Some-formula_array-clause-ok c =
    valued_there c.args.cells.now c.value_array.new.cells c.args.place c.in-Some-formula_array.f c.in-Some-formula_array.s c.in-Some-formula_array.array c.args.value (sym c.in-Some-formula_array.ensures) c.in_ok-value_array.ensures.ok
