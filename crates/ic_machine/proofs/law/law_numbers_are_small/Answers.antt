use Rattle.ic_machine.proofs.bound.NumberLemmas.{small}
use Rattle.ic_machine.proofs.law.law_numbers_are_small.Goals as goal

pub returns : goal.returns
returns c = small
