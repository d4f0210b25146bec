use Rattle.ic_machine.proofs.again.ExtendedLemmas.{copied_is_over, copied_text_stays}
use Rattle.ic_machine.proofs.law.law_copied_is_extended.Goals as goal

pub returns : goal.returns
returns c = record { formula = copied_is_over; text = copied_text_stays }
