use Rattle.ic_audit.proofs.GoneLemmas.{sheet_is_gone}
use Rattle.ic_audit.proofs.law.law_sheet_gone.Goals as goal

pub returns : goal.returns
returns c = sheet_is_gone
