use Rattle.ic_machine.proofs.kinds.ReaderLemmas.{readers_leave}
use Rattle.ic_machine.proofs.law.law_readers_change_nothing.Goals as goal

pub returns : goal.returns
returns c = readers_leave
