use Rattle.std.proofs.Common.{chars}
use Rattle.ic_input.proofs.TypedLaws.{formula_exactly}
use Rattle.ic_input.proofs.TypedSteps.{tells_texts}
use Rattle.ic_input.proofs.input.formula_without_prefix.Goals as goal

pub returns-clause-formula : goal.returns-clause-formula
returns-clause-formula c = λ tables f h. formula_exactly c.args.locale.now (tells_texts tables c.args.locale.now h) (chars c.args.text.now) f
