use Rattle.ic_machine.proofs.again.ExtendedLemmas.{reference_is_written}
use Rattle.ic_machine.proofs.law.law_reference_is_written.Goals as goal

pub returns : goal.returns
returns c = reference_is_written
