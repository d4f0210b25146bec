use Rattle.ic_machine.proofs.valid.RetypedLemmas.{retyped_stays}
use Rattle.ic_machine.proofs.law.law_retyped_stays.Goals as goal

pub returns : goal.returns
returns c = retyped_stays
