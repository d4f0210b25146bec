use Rattle.ic_pool.proofs.CodeLaws.{code_determines}
use Rattle.ic_pool.proofs.law.law_code_determines.Goals as goal

pub returns : goal.returns
returns c = code_determines
