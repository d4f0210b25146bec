use Rattle.ic_machine.proofs.again.ExtendedLemmas.{extended_is_same, extended_is_typed, extended_is_written}
use Rattle.ic_machine.proofs.law.law_extended_is_same.Goals as goal

pub returns : goal.returns
returns c = record { same = extended_is_same; written = extended_is_written; typed = extended_is_typed }
