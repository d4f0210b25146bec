-- Different sheet names are enough.
use Rattle.ic_laws.proofs.binding.Settled.{bound_is_settled}
use Rattle.ic_laws.proofs.law.law_binding_settled.Goals as goal

pub returns : goal.returns
returns c = λ english scene scope sheets keys by_fold t. bound_is_settled english scene scope sheets by_fold t
