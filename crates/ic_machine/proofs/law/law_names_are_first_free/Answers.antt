use Rattle.ic_machine.proofs.bound.NamesFirst.{copy_is_named_first, new_is_named_first}
use Rattle.ic_machine.proofs.law.law_names_are_first_free.Goals as goal

pub returns : goal.returns
returns c = record { new = new_is_named_first; copy = copy_is_named_first }
