use Rattle.ic_machine.proofs.as_core.SteppedLemmas.{stepped}
use Rattle.ic_machine.proofs.law.law_core_is_stepped.Goals as goal

pub returns : goal.returns
returns c = stepped
