use Rattle.ic_machine.proofs.kinds.KindLemmas.{left_by_kind}
use Rattle.ic_machine.proofs.law.law_kinds_tell_changes.Goals as goal

pub returns : goal.returns
returns c = left_by_kind
