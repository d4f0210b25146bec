use Rattle.ic_audit.proofs.GoneLemmas.{name_is_gone}
use Rattle.ic_audit.proofs.law.law_name_gone.Goals as goal

pub returns : goal.returns
returns c = name_is_gone
