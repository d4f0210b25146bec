use Rattle.ic_share.proofs.LeaveOutLemmas.{leaves_no_trace}
use Rattle.ic_share.proofs.law.law_leave_out.Goals as goal

pub returns : goal.returns
returns c = leaves_no_trace
