use Rattle.ic_machine.proofs.as_core.FormulaStepped.{formula_told}
use Rattle.ic_machine.proofs.law.law_formula_is_stepped.Goals as goal

pub returns : goal.returns
returns c = formula_told
